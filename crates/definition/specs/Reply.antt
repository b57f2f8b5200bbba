-- Document 01, "Reply": service OR 0x80, 0, general status, count of extended words, those words, data.
-- CIP Volume 1, section 2-4 (message router response), defines the layout; Appendix B the general statuses; 1756-PM020 the extended words.
-- What a status stands for here, and the buffer after a reply, are document 01's.
use Rattle.std.specs.Prelude.{List, [], ◌∷◌, ◌++◌, ℕ, max}
use Rattle.std.specs.Int.Bits.{bit_or}
use Rattle.definition.specs.Bytes.{le16}

-- a general status alone, or with one extended word
pub data Status : Type 0 where
  general : (code : ℕ) → Status
  extended : (code word : ℕ) → Status

-- [CIP]
abbrev pub code_of : Status → ℕ
code_of (general code) = code
code_of (extended code word) = code

-- the count of extended words, and these [CIP]
abbrev pub words_of : Status → List ℕ
words_of (general code) = 0 ∷ []
words_of (extended code word) = 1 ∷ le16 word

-- CIP Volume 1, section 2-4 [CIP]
unfoldable pub reply : (service : ℕ) → Status → (body : List ℕ) → List ℕ
reply service status body = bit_or service 0x80 ∷ 0 ∷ code_of status ∷ words_of status ++ body

-- a reply without data [CIP]
abbrev pub fail : ℕ → Status → List ℕ
fail service status = reply service status []

-- ---- the statuses of document 01's items 5 to 20; CIP Volume 1, Appendix B, names the general ones

-- [CIP]
abbrev pub success : Status
success = general 0x00

-- [CIP]
abbrev pub no_elements : Status
no_elements = general 0x03

-- [CIP]
abbrev pub path_error : Status
path_error = general 0x04

-- [CIP]
abbrev pub path_unknown : Status
path_unknown = general 0x05

-- [CIP]
abbrev pub partial : Status
partial = general 0x06

-- [CIP]
abbrev pub not_supported : Status
not_supported = general 0x08

-- [CIP]
abbrev pub too_large : Status
too_large = general 0x11

-- [CIP]
abbrev pub too_short : Status
too_short = general 0x13

-- [CIP]
abbrev pub no_attribute : Status
no_attribute = general 0x14

-- [CIP]
abbrev pub too_long : Status
too_long = general 0x15

-- [CIP]
abbrev pub part_failed : Status
part_failed = general 0x1E

-- 1756-PM020: with an extended word [PM020]
abbrev pub denied : Status
denied = extended 0x0F 0x2100

-- [PM020]
abbrev pub beyond_end : Status
beyond_end = extended 0xFF 0x2105

-- [PM020]
abbrev pub wrong_type : Status
wrong_type = extended 0xFF 0x2107

-- ---- a reply and the tag memory it leaves; the buffer is zero from the reply's end up to this position

pub record Answer : Type 0 where
  pub reply : List ℕ
  pub memory : List ℕ

-- [01]
abbrev pub answered : List ℕ → List ℕ → Answer
answered r m = record { reply = r; memory = m }

-- [01]
abbrev pub room : ℕ → ℕ
room limit = max 8 limit
