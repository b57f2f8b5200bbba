-- Point 3 of document 00, with document 01, "Fragment": the continued reads. What a list of turns leaves behind, the premises on the list, and what is
-- claimed of it. Over any controller and anything that may happen to it: a turn is one of ours, which is a message, or an event.
use Rattle.std.specs.Prelude.{◌≡◌, ◌↔◌, ◌≢◌, ◌⊎◌, List, [], ◌∷◌, ◌++◌, ℕ, ◌+◌, ◌≤◌, ◌<◌, min, length, take, drop, get_or}
use Rattle.definition.specs.Fragment.{space, reply_count}
use Rattle.definition.specs.Entry.{Outcome, refused, replied}

-- a message with its limit and its reply buffer
pub record Sent : Type 0 where
  pub request : List ℕ
  pub limit : ℕ
  pub buffer : List ℕ

-- one of the continued messages, or anything else that happens between them
pub data Turn (Event : Type 0) : Type 0 where
  ours : Sent → Turn Event
  other : Event → Turn Event

-- an answered message: its limit, its general status and its data past the type header
pub record Answered : Type 0 where
  pub limit : ℕ
  pub status : ℕ
  pub bytes : List ℕ

-- ---- of the answered ones, THE NEWEST FIRST

unfoldable pub joined : List Answered → List ℕ
joined [] = []
joined (a ∷ before) = joined before ++ a.bytes

-- 6 before anything is answered: more is due
abbrev pub last_status : List Answered → ℕ
last_status [] = 6
last_status (a ∷ before) = a.status

abbrev pub smallest : ℕ → List Answered → ℕ
smallest m [] = m
smallest m (a ∷ before) = min a.limit (smallest m before)

-- the smallest answered limit
abbrev pub least_limit : List Answered → ℕ
least_limit [] = 0
least_limit (a ∷ before) = smallest a.limit before

abbrev pub Each : (Answered → Type 0) → List Answered → Type 0
Each P [] = Unit {0}
Each P (a ∷ before) = P a × Each P before

-- ---- the list of turns

-- what is heard of a message, h bytes of type header left out: of an entry refusal nothing
abbrev pub heard : (h limit : ℕ) → Outcome → List Answered → List Answered
heard h limit (refused k) answers = answers
heard h limit (replied r) answers = record { limit = limit; status = get_or r 2 0; bytes = drop (4 + h) r } ∷ answers

abbrev pub Replied : Outcome → Type 0
Replied (refused k) = ⊥
Replied (replied r) = Unit {0}

-- none of ours is left
abbrev pub Quiet : {Event : Type 0} → List (Turn Event) → Type 0
Quiet [] = Unit {0}
Quiet (ours s ∷ rest) = ⊥
Quiet (other e ∷ rest) = Quiet rest

-- over any controller: what a message is answered from a state, the state that it leaves, and the state that an event leaves
module _ {State Event : Type 0} (hear : Sent → State → Outcome) (after : Sent → State → State) (step : Event → State → State) where
  -- the answers to the continued messages of a list, each turn given the state that the one before left
  unfoldable pub talk : (h : ℕ) → State → List Answered → List (Turn Event) → List Answered
  talk h m answers [] = answers
  talk h m answers (ours s ∷ rest) = talk h (after s m) (heard h s.limit (hear s m) answers) rest
  talk h m answers (other e ∷ rest) = talk h (step e m) answers rest

  -- the premises on the list: each of ours is the read at the number of value bytes received, none follows status 0, an answered one has a
  -- limit of at least 5 plus the type header; with one of ours behind it, an event changes no selected byte and is one that may fall between
  unfoldable pub Fair : (reads : State → Sent → ℕ → Type 0) (selected : State → List ℕ) (between : Event → State → Type 0) (h : ℕ)
      → State → List Answered → List (Turn Event) → Type 0
  Fair reads selected between h m answers [] = Unit {0}
  Fair reads selected between h m answers (ours s ∷ rest) =
      reads m s (length (joined answers))
      × last_status answers ≢ 0
      × (Replied (hear s m) → 5 + h ≤ s.limit)
      × Fair reads selected between h (after s m) (heard h s.limit (hear s m) answers) rest
  Fair reads selected between h m answers (other e ∷ rest) =
      Quiet rest
      ⊎ ((selected (step e m) ≡ selected m) × between e m × Fair reads selected between h (step e m) answers rest)

-- what is claimed of the answers, the newest first, to continued reads of the selected bytes
pub record Delivered (selected : List ℕ) (h : ℕ) (answers : List Answered) : Type 0 where
  -- exactly the first of those selected, none skipped, none twice
  pub first_of_them : joined answers ≡ take (length (joined answers)) selected
  -- every answered read brings at least one
  pub each_brings : Each (λ a. 0 < length a.bytes) answers
  -- status 0 exactly when all are there
  pub last_zero : (last_status answers ≡ 0) ↔ (joined answers ≡ selected)
  -- no more reads than document 01's count
  pub few : 0 < length answers → length answers ≤ reply_count (length selected) (space h (least_limit answers))
