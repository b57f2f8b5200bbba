-- Document 01, "Envelope" and items 6 to 8: several services in one message (0x0A on class 0x02 instance 1).
-- CIP Volume 1, Appendix A (Multiple_Service_Packet), defines the layout and status 0x1E; document 01 alone which offsets are turned away,
-- the parts' limits and 0x11.
-- `answer` is the dispatcher that a part goes back to. A part that starts with 0x0A is refused here, so a dispatcher without envelopes is enough.
use Rattle.std.specs.Prelude.{Bool, List, [], ◌∷◌, ◌++◌, ℕ, ◌+◌, ◌-◌, ◌*◌, leb, eqb, length, get_or}
use Rattle.std.specs.Prelude.{Option, None, Some}
use Rattle.laws.specs.Pick.{pick, both}
use Rattle.laws.specs.Tests.{every}
use Rattle.definition.specs.Bytes.{le16, part, counted}
use Rattle.definition.specs.Reply.{Answer, answered, reply, fail, success, part_failed, not_supported, too_large, too_short}
use Rattle.definition.specs.Tables.{Flags, takes_envelopes}

-- [CIP]
abbrev pub envelope_service : ℕ
envelope_service = 0x0A

-- ---- the parts: from each offset to the next, the last to the end; offsets count from the count's first byte

-- offsets from `at` on do not fall back and do not pass the end [01]
unfoldable pub ascending : (at : ℕ) (offsets : List ℕ) (end : ℕ) → Bool
ascending at [] end = leb at end
ascending at (o ∷ os) end = both (leb at o) (ascending o os end)

-- [CIP]
unfoldable pub parts_from : (body : List ℕ) (offsets : List ℕ) → List (List ℕ)
parts_from body [] = []
parts_from body (o ∷ []) = part body o (length body - o) ∷ []
parts_from body (o ∷ (p ∷ rest)) = part body o (p - o) ∷ parts_from body (p ∷ rest)

-- [01]
abbrev pub parts_by : (body : List ℕ) → Option (List ℕ) → Option (List (List ℕ))
parts_by body None = None
parts_by body (Some offsets) =
    pick (ascending (2 + 2 * length offsets) offsets (length body)) (Some (parts_from body offsets)) None

-- none if count or offsets are missing, fall back, start inside the offsets or pass the end [01]
unfoldable pub parts_of : (body : List ℕ) → Option (List (List ℕ))
parts_of body = parts_by body (counted body)

-- ---- the parts' replies, each on the memory that the one before it left

pub record Replies : Type 0 where
  pub replies : List (List ℕ)
  pub memory : List ℕ

-- [01]
abbrev pub Dispatcher : Type 0
Dispatcher = (memory message : List ℕ) (limit : ℕ) → Answer

-- a part starting 0x0A gets 0x08 [01]
unfoldable pub part_answer : Dispatcher → (memory message : List ℕ) (limit : ℕ) → Answer
part_answer answer memory message limit =
    pick (eqb (get_or message 0 0) envelope_service) (answered (fail envelope_service not_supported) memory) (answer memory message limit)

-- [01]
abbrev pub and_reply : List ℕ → Replies → Replies
and_reply r rest = record { replies = r ∷ rest.replies; memory = rest.memory }

-- limit minus bytes used minus 4 for each part still to come, at least 0 [01]
unfoldable pub run_parts : Dispatcher → (limit used : ℕ) (parts : List (List ℕ)) (memory : List ℕ) → Replies
run_parts answer limit used [] memory = record { replies = []; memory = memory }
run_parts answer limit used (p ∷ rest) memory =
    let a = part_answer answer memory p (limit - (used + 4 * length rest)) in
    and_reply a.reply (run_parts answer limit (used + length a.reply) rest a.memory)

-- ---- the whole

-- [CIP]
unfoldable pub join_all : List (List ℕ) → List ℕ
join_all [] = []
join_all (r ∷ rest) = r ++ join_all rest

-- where each reply starts [CIP]
unfoldable pub offsets_from : (at : ℕ) → List (List ℕ) → List ℕ
offsets_from at [] = []
offsets_from at (r ∷ rest) = le16 at ++ offsets_from (at + length r) rest

-- 0x1E if any part's status is nonzero, 0x06 too [CIP]
unfoldable pub envelope_reply : List (List ℕ) → List ℕ
envelope_reply replies =
    reply envelope_service (pick (every (λ r. eqb (get_or r 2 0) 0) replies) success part_failed)
    (le16 (length replies) ++ offsets_from (2 + 2 * length replies) replies ++ join_all replies)

-- 0x11 if the whole exceeds the limit, the parts' writes being kept [01]
unfoldable pub close_envelope : (limit : ℕ) → Replies → Answer
close_envelope limit rs =
    pick (leb (length (envelope_reply rs.replies)) limit) (answered (envelope_reply rs.replies) rs.memory)
    (answered (fail envelope_service too_large) rs.memory)

-- [01]
abbrev pub answer_parts : Dispatcher → (memory : List ℕ) → Option (List (List ℕ)) → (limit : ℕ) → Answer
answer_parts answer memory None limit = answered (fail envelope_service too_short) memory
answer_parts answer memory (Some parts) limit = close_envelope limit (run_parts answer limit (6 + 2 * length parts) parts memory)

-- [01]
unfoldable pub envelope : Flags → Dispatcher → (memory body : List ℕ) (limit : ℕ) → Answer
envelope f answer memory body limit =
    pick (takes_envelopes f) (answer_parts answer memory (parts_of body) limit) (answered (fail envelope_service not_supported) memory)
