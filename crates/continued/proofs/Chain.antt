-- Answers, the newest first, of which each is the fragment at the number of bytes joined before it, deliver what is selected.
-- Nothing here speaks of messages or of memory.
-- Assumes nothing.
use mathlib.Core.Path.{◌≡◌, refl, sym, ap, ◌∙◌}
use mathlib.Core.Logic.{◌↔◌, ◌≢◌}
use Prim.Native.Nat.{ℕ, suc, ◌+◌, ◌-◌, ◌*◌, ◌≤◌, ◌<◌}
use native.Mathlib.Omega.{arith}
use mathlib.Core.List.{List, [], ◌∷◌, ◌++◌}
use lib.ListN.{length, take, drop, length-take, length-drop, length-append}
use lib.Seq.{take-add, take-length}
use Rattle.definition.specs.Fragment.{space, rounded, size_of, status_of, reply_count}
use Rattle.continued.specs.Reads.{Answered, joined, last_status, smallest, least_limit, Each, Delivered}
use Rattle.definition.proofs.Cut.{Cut, whole, part, cuts, size_positive, size_le, rounded_le, rounded_mono, Few, few-count}

-- the answer that the definition gives after `answers`, at a limit
abbrev pub fragment : List ℕ → ℕ → ℕ → List Answered → Answered
fragment selected h limit answers =
    let at = length (joined answers) in
    let due = length selected - at in
    record {
      limit = limit;
      status = status_of due (space h limit);
      bytes = take (size_of due (space h limit)) (drop at selected);
    }

pub data Chain (selected : List ℕ) (h : ℕ) : List Answered → Type 0 where
  start : Chain selected h []
  next : {answers : List Answered} (limit : ℕ) → Chain selected h answers → last_status answers ≢ 0 → 5 + h ≤ limit
      → Chain selected h (fragment selected h limit answers ∷ answers)

module _ (selected : List ℕ) (h : ℕ) where
  pub bytes_length : (limit : ℕ) (answers : List Answered)
      → length (fragment selected h limit answers).bytes ≡ size_of (length selected - length (joined answers)) (space h limit)
  bytes_length limit answers =
      simp (length-take, length-drop) (omega (arith, size_le (length selected - length (joined answers)) (space h limit)))

  pub joined_length : (limit : ℕ) (answers : List Answered)
      → length (joined (fragment selected h limit answers ∷ answers))
      ≡ length (joined answers) + size_of (length selected - length (joined answers)) (space h limit)
  unfolding joined
  joined_length limit answers = length-append (joined answers) _ ∙ ap (λ (k : ℕ). length (joined answers) + k) (bytes_length limit answers)

  -- ---- the joined bytes are the first of the selected ones

  pub first_of_them : {answers : List Answered} → Chain selected h answers → joined answers ≡ take (length (joined answers)) selected
  unfolding joined
  first_of_them start = refl
  first_of_them (next {answers = t} limit c o l) =
      let at = length (joined t) in
      let size = size_of (length selected - at) (space h limit) in
      ap (λ (r : List ℕ). r ++ take size (drop at selected)) (first_of_them c)
      ∙ sym (take-add at size selected)
      ∙ ap (λ (k : ℕ). take k selected) (sym (joined_length limit t))

  -- ---- status 0 exactly when all are there

  pub data End (answers : List Answered) : Type 0 where
    all : last_status answers ≡ 0 → length (joined answers) ≡ length selected → End answers
    some : last_status answers ≡ 6 → length (joined answers) < length selected → End answers

  pub ends : 0 < length selected → {answers : List Answered} → Chain selected h answers → End answers
  unfolding joined
  ends p start = some refl p
  ends p (next {answers = t} limit c o l) = go (ends p c) (cuts (length selected - length (joined t)) (space h limit))
    where
      go : End t → Cut (length selected - length (joined t)) (space h limit) → End (fragment selected h limit t ∷ t)
      go (all z e) cut = absurd (o z)
      go (some z e) (whole a b d) = all d (omega (arith, joined_length limit t))
      go (some z e) (part a b d) = some d (omega (arith, joined_length limit t, rounded_le (space h limit)))

  -- ---- each answer brings something

  pub each_brings : 0 < length selected → {answers : List Answered} → Chain selected h answers → Each (λ a. 0 < length a.bytes) answers
  each_brings p start = tt
  each_brings p (next {answers = t} limit c o l) = (go (ends p c), each_brings p c)
    where
      go : End t → 0 < length (fragment selected h limit t).bytes
      go (all z e) = absurd (o z)
      go (some z e) = rw (bytes_length limit t) (size_positive _ _ (omega arith) (omega arith))

  -- ---- the answers are few: r and g are of any limit that is at most each of theirs

  pub data Bound (n g r : ℕ) (answers : List Answered) : Type 0 where
    closed : {k : ℕ} → last_status answers ≡ 0 → length answers ≡ suc k → Few n g r k → Bound n g r answers
    open' : length answers * g ≤ length (joined answers) → Few n g r (length answers) → Bound n g r answers

  pub bounds : 0 < length selected → (least : ℕ) {answers : List Answered} → Chain selected h answers → Each (λ a. least ≤ a.limit) answers
      → Bound (length selected) (rounded (space h least)) (space h least) answers
  bounds p least start m = open' (omega arith) Few.none
  bounds p least (next {answers = t} limit c o l) m = go (ends p c) (bounds p least c m.1) (cuts (length selected - length (joined t)) (space h limit))
    where
      go : End t → Bound (length selected) (rounded (space h least)) (space h least) t → Cut (length selected - length (joined t)) (space h limit)
          → Bound (length selected) (rounded (space h least)) (space h least) (fragment selected h limit t ∷ t)
      go (all z e) b cut = absurd (o z)
      go (some z e) (closed y k f) cut = absurd (o y)
      go (some z e) (open' k f) (whole a b d) = closed d refl f
      go (some z e) (open' k f) (part a b d) =
          open' (omega (arith, joined_length limit t, rounded_mono (space h least) (space h limit) (omega (arith, m.0))))
          (Few.some {j = length t} (omega (arith, m.0)))

-- each limit is at least the smallest
least-each : (m : ℕ) (answers : List Answered) → Each (λ a. smallest m answers ≤ a.limit) answers
least-each m answers = go answers (smallest m answers) (omega arith)
  where
    go : (t : List Answered) (least : ℕ) → least ≤ smallest m t → Each (λ a. least ≤ a.limit) t
    go [] least e = tt
    go (a ∷ t) least e = (omega arith, go t least (omega arith))

least_at_least : (m b : ℕ) (answers : List Answered) → b ≤ m → Each (λ a. b ≤ a.limit) answers → b ≤ smallest m answers
least_at_least m b [] e c = e
least_at_least m b (a ∷ t) e c = omega (arith, least_at_least m b t e c.1, c.0)

least_le : (m : ℕ) (answers : List Answered) → smallest m answers ≤ m
least_le m [] = omega arith
least_le m (a ∷ t) = omega (arith, least_le m t)

module _ (selected : List ℕ) (h : ℕ) (some-selected : 0 < length selected) where
  limits : {answers : List Answered} → Chain selected h answers → Each (λ a. 5 + h ≤ a.limit) answers
  limits start = tt
  limits (next limit c o l) = (l, limits c)

  few : (a : Answered) (t : List Answered) → Chain selected h (a ∷ t) → suc (length t) ≤ reply_count (length selected) (space h (least_limit (a ∷ t)))
  few a t c = go (bounds selected h some-selected (smallest a.limit t) c (least_le a.limit t, least-each a.limit t))
    where
      positive : 5 + h ≤ smallest a.limit t
      positive = least_at_least a.limit (5 + h) t (limits c).0 (limits c).1

      go : Bound selected h (length selected) (rounded (space h (smallest a.limit t))) (space h (smallest a.limit t)) (a ∷ t)
          → suc (length t) ≤ reply_count (length selected) (space h (smallest a.limit t))
      go (closed {k} z e f) = omega (arith, few-count (length selected) (space h (smallest a.limit t)) k (omega (arith, positive)) f)
      go (open' e f) = omega (arith, few-count (length selected) (space h (smallest a.limit t)) (suc (length t)) (omega (arith, positive)) f)

  last_zero : {answers : List Answered} → Chain selected h answers → (last_status answers ≡ 0) ↔ (joined answers ≡ selected)
  last_zero {answers} c = go (ends selected h some-selected c)
    where
      go : End selected h answers → (last_status answers ≡ 0) ↔ (joined answers ≡ selected)
      go (all z e) = (λ y. first_of_them selected h c ∙ ap (λ (k : ℕ). take k selected) e ∙ take-length selected, λ q. z)
      go (some z e) = (λ y. absurd (omega arith), λ q. absurd (omega (arith, ap length q)))

  pub delivered : (answers : List Answered) → Chain selected h answers → Delivered selected h answers
  delivered answers c = record {
    first_of_them = first_of_them selected h c;
    each_brings = each_brings selected h some-selected c;
    last_zero = last_zero c;
    few = go answers c;
  }
    where
      go : (t : List Answered) → Chain selected h t → 0 < length t → length t ≤ reply_count (length selected) (space h (least_limit t))
      go [] c l = absurd (omega arith)
      go (a ∷ t) c l = few a t c
