-- Document 01, its head: "wire numbers are little-endian". Bytes are numbers below 256, and a text is a list of them.
-- CIP Volume 1, Appendix C (data encoding), defines the order of the bytes.
-- In every file the comment on a function ends with what defines it: [CIP] CIP Volume 1, [PM020] 1756-PM020, [01] document 01 alone. Where the head of
-- a file says that all of it is document 01's, its functions carry no mark.
use Rattle.std.specs.Prelude.{List, [], ◌∷◌, ℕ, zero, suc, ◌+◌, ◌*◌, ◌/◌, ◌%◌, ltb, length, get_or, take, drop}
use Rattle.std.specs.Prelude.{Option, None, Some}
use Rattle.laws.specs.Pick.{pick}

-- the numbers of 16 and of 32 bits that stand at a position; a byte past the end counts as 0, which never matters: the length is tested wherever one is read
-- [CIP]
abbrev pub u16_at : List ℕ → ℕ → ℕ
u16_at s i = get_or s i 0 + 256 * get_or s (i + 1) 0

-- [CIP]
abbrev pub u32_at : List ℕ → ℕ → ℕ
u32_at s i = u16_at s i + 65536 * u16_at s (i + 2)

-- a number's low 16 and low 32 bits as bytes [CIP]
abbrev pub le16 : ℕ → List ℕ
le16 n = n % 256 ∷ n / 256 % 256 ∷ []

-- [CIP]
abbrev pub le32 : ℕ → List ℕ
le32 n = n % 256 ∷ n / 256 % 256 ∷ n / 65536 % 256 ∷ n / 16777216 % 256 ∷ []

-- `size` bytes from `start` on [01]
abbrev pub part : List ℕ → ℕ → ℕ → List ℕ
part s start size = take size (drop start s)

-- n numbers of 16 bits in a row [01]
unfoldable pub numbers : (n : ℕ) → List ℕ → List ℕ
numbers zero s = []
numbers (suc n) s = u16_at s 0 ∷ numbers n (drop 2 s)

-- a count of 16 bits and as many numbers of 16 bits; none if one of them is missing, and what follows is ignored [01]
unfoldable pub counted : List ℕ → Option (List ℕ)
counted s = let n = u16_at s 0 in pick (ltb (length s) (2 + 2 * n)) None (Some (numbers n (drop 2 s)))
