-- Point 3 of document 00, with document 01, "Symbol page": the continued symbol pages. The premises on a list of turns, and what is claimed of its
-- answered pages. Over any controller, as in Reads.
use Rattle.std.specs.Prelude.{◌≡◌, ◌↔◌, ◌≢◌, ◌⊎◌, List, [], ◌∷◌, map, ℕ, suc, ◌+◌, ◌≤◌, ◌<◌, max, length, take, drop, get_or}
use Rattle.laws.specs.Sorted.{All}
use Rattle.definition.specs.Page.{Entry, id_of, bytes_of}
use Rattle.definition.specs.Entry.{Outcome}
use Rattle.continued.specs.Reads.{Sent, Turn, ours, other, Answered, joined, last_status, Each, heard, Replied, Quiet}

-- the start ID is the first until a page is answered, then the last joined ID plus one: of the k-th entry due, if as many bytes are joined as there are up to
-- it
abbrev pub Starts : (pages : ℕ → Type 0) (due : List Entry) (first : ℕ) → List Answered → Type 0
Starts pages due first [] = pages first
Starts pages due first (a ∷ before) =
    (k : ℕ) × (k < length due) × (length (joined (a ∷ before)) ≡ length (bytes_of (take (suc k) due))) × pages (suc (get_or (map id_of due) k 0))

module _ {State Event : Type 0} (hear : Sent → State → Outcome) (after : Sent → State → State) (step : Event → State → State) where
  -- the premises on the list: none of ours follows status 0, and an answered one has a limit of at least 4 plus the longest entry due; with one of ours
  -- behind it, an event leaves the same entries due and is one that may fall between
  unfoldable pub FairPages : (pages : State → Sent → ℕ → Type 0) (due : State → List Entry) (first : ℕ) (between : Event → State → Type 0)
      → State → List Answered → List (Turn Event) → Type 0
  FairPages pages due first between m answers [] = Unit {0}
  FairPages pages due first between m answers (ours s ∷ rest) =
      Starts (pages m s) (due m) first answers
      × last_status answers ≢ 0
      × (Replied (hear s m) → All (λ e. 4 + length e.bytes ≤ s.limit) (due m))
      × FairPages pages due first between (after s m) (heard 0 s.limit (hear s m) answers) rest
  FairPages pages due first between m answers (other e ∷ rest) =
      Quiet rest
      ⊎ ((due (step e m) ≡ due m) × between e m × FairPages pages due first between (step e m) answers rest)

-- what is claimed of the answered pages, the newest first
pub record Listed (due : List Entry) (answers : List Answered) : Type 0 where
  -- the joined entries are the first of those due, ascending, each once, byte for byte
  pub entries : ℕ
  pub at_most : entries ≤ length due
  pub first_of_them : joined answers ≡ bytes_of (take entries due)
  -- each answered page is one or more whole entries, if any is due
  pub each_brings : 0 < length due → Each (λ a. (i j : ℕ) × (i + suc j ≤ length due) × (a.bytes ≡ bytes_of (take (suc j) (drop i due)))) answers
  pub statuses : Each (λ a. (a.status ≡ 0) ⊎ (a.status ≡ 6)) answers
  -- the last status is 0 exactly when all are joined
  pub last_zero : 0 < length answers → (last_status answers ≡ 0) ↔ (joined answers ≡ bytes_of due)
  -- one page for each symbol due at most, one if none is
  pub few : length answers ≤ max 1 (length due)
