-- The statement on the symbol pages of any controller and any events: `page_law` is what the proof asks of its definition, and that ours leave the symbols.
-- Assumes nothing.
use mathlib.Core.Path.{◌≡◌, refl, sym, ap, ◌∙◌}
use mathlib.Core.Logic.{◌↔◌, ◌≢◌, ◌⊎◌, inl, inr}
use mathlib.Core.Bool.{Bool, true, false}
use mathlib.Core.List.{List, [], ◌∷◌, ◌++◌}
use Prim.Native.Nat.{ℕ, suc, ◌+◌, ◌-◌, ◌≤◌, ◌<◌, max}
use native.Mathlib.Omega.{arith}
use lib.Dec.{eqb}
use lib.ListN.{length, take, drop, length-drop}
use lib.Seq.{take-add, take-length}
use borrow.Author.Tests.{eqb-true, eqb-false}
use Rattle.laws.specs.Pick.{pick}
use Rattle.laws.specs.Sorted.{All, from, Sorted}
use Rattle.laws.proofs.Chain.{pick_all}
use Rattle.laws.proofs.Sorted.{All-map, All-drop, All-from, from_next}
use Rattle.definition.specs.Reply.{reply}
use Rattle.definition.specs.Page.{Entry, id_of, bytes_of, fitting, page_reply}
use Rattle.definition.specs.Entry.{Outcome, refused, replied}
use Rattle.continued.specs.Reads.{Sent, Turn, ours, other, Answered, joined, last_status, Each, heard, Replied, talk}
use Rattle.continued.specs.Pages.{Starts, FairPages, Listed}
use Rattle.continued.proofs.Talk.{quiet_talk}
use Rattle.continued.proofs.Entries.{bytes-append, bytes_count, fitting_le, fitting-some, fits_first}

-- the answered page of some entries
abbrev page : ℕ → List Entry → Answered
page limit es =
    let n = fitting (limit - 4) es in
    record { limit = limit; status = pick (eqb n (length es)) 0 6; bytes = bytes_of (take n es) }

-- pages, the newest first, of which each is of the entries due that were not yet joined; i are joined
data Paged (due : List Entry) : ℕ → List Answered → Type 0 where
  start : Paged due 0 []
  next : {i : ℕ} {t : List Answered} (limit : ℕ) → Paged due i t → last_status t ≢ 0 → All (λ e. 4 + length e.bytes ≤ limit) due
      → Paged due (i + fitting (limit - 4) (drop i due)) (page limit (drop i due) ∷ t)

none-joined : (due : List Entry) {i : ℕ} → Paged due i [] → i ≡ 0
none-joined due start = refl

data Stand (due : List Entry) (i : ℕ) (t : List Answered) : Type 0 where
  fresh : last_status t ≡ 6 → i ≡ 0 → length t ≡ 0 → Stand due i t
  more : last_status t ≡ 6 → i < length due → length t ≤ i → Stand due i t
  done : last_status t ≡ 0 → i ≡ length due → length t ≤ max 1 (length due) → Stand due i t

module _ (due : List Entry) where
  fit : (limit i : ℕ) → All (λ e. 4 + length e.bytes ≤ limit) due → All (λ e. length e.bytes ≤ limit - 4) (drop i due)
  fit limit i l = All-drop _ i due (All-map (λ e. 4 + length e.bytes ≤ limit) (λ e. length e.bytes ≤ limit - 4) (λ e h. omega arith) due l)

  brings : (limit i : ℕ) → All (λ e. 4 + length e.bytes ≤ limit) due → i < length due → 0 < fitting (limit - 4) (drop i due)
  brings limit i l b = fitting-some (limit - 4) (drop i due) (fit limit i l) (omega (arith, length-drop i due))

  stand : {i : ℕ} {t : List Answered} → Paged due i t → Stand due i t
  stand start = fresh refl refl refl
  stand (next {i} {t} limit c o l) = go (stand c) (eqb (fitting (limit - 4) (drop i due)) (length (drop i due))) refl
    where
      n : ℕ
      n = fitting (limit - 4) (drop i due)

      status_is : (b : Bool) → eqb n (length (drop i due)) ≡ b → last_status (page limit (drop i due) ∷ t) ≡ pick b 0 6
      status_is b e = rw e

      part : length t ≤ i → eqb n (length (drop i due)) ≡ false → Stand due (i + n) (page limit (drop i due) ∷ t)
      part k e =
          let b : n < length (drop i due) = omega (arith, fitting_le (limit - 4) (drop i due), eqb-false n (length (drop i due)) e) in
          more (status_is false e) (omega (arith, length-drop i due)) (omega (arith, brings limit i l (omega (arith, length-drop i due))))

      go : Stand due i t → (b : Bool) → eqb n (length (drop i due)) ≡ b → Stand due (i + n) (page limit (drop i due) ∷ t)
      go (fresh s z k) true e = done (status_is true e) (omega (arith, eqb-true n _ e, length-drop i due)) (omega arith)
      go (fresh s z k) false e = part (omega arith) e
      go (more s z k) true e = done (status_is true e) (omega (arith, eqb-true n _ e, length-drop i due))
          (omega (arith, eqb-true n _ e, length-drop i due, brings limit i l z))
      go (more s z k) false e = part k e
      go (done s z k) b e = absurd (o s)

  at_most : {i : ℕ} {t : List Answered} → Paged due i t → i ≤ length due
  at_most {i} {t} c = go (stand c)
    where
      go : Stand due i t → i ≤ length due
      go (fresh s z k) = omega arith
      go (more s z k) = omega arith
      go (done s z k) = omega arith

  first_of_them : {i : ℕ} {t : List Answered} → Paged due i t → joined t ≡ bytes_of (take i due)
  unfolding bytes_of joined
  first_of_them start = refl
  first_of_them (next {i} {t} limit c o l) =
      let n = fitting (limit - 4) (drop i due) in
      ap (λ (r : List ℕ). r ++ bytes_of (take n (drop i due))) (first_of_them c)
      ∙ sym (bytes-append (take i due) (take n (drop i due)))
      ∙ ap bytes_of (sym (take-add i n due))

  abbrev Brings : Answered → Type 0
  Brings a = (i j : ℕ) × (i + suc j ≤ length due) × (a.bytes ≡ bytes_of (take (suc j) (drop i due)))

  each_brings : {i : ℕ} {t : List Answered} → Paged due i t → 0 < length due → Each Brings t
  each_brings start p = tt
  each_brings (next {i} {t} limit c o l) p = (go (stand c), each_brings c p)
    where
      some : i < length due → Brings (page limit (drop i due))
      some b =
          let n = fitting (limit - 4) (drop i due) in
          let k : n ≡ suc (n - 1) = omega (arith, brings limit i l b) in
          (i, n - 1, omega (arith, k, fitting_le (limit - 4) (drop i due), length-drop i due), ap (λ (x : ℕ). bytes_of (take x (drop i due))) k)

      go : Stand due i t → Brings (page limit (drop i due))
      go (fresh s z k) = some (omega arith)
      go (more s z k) = some z
      go (done s z k) = absurd (o s)

  statuses : {i : ℕ} {t : List Answered} → Paged due i t → Each (λ a. (a.status ≡ 0) ⊎ (a.status ≡ 6)) t
  statuses start = tt
  statuses (next {i} limit c o l) =
      (pick_all (λ (n : ℕ). (n ≡ 0) ⊎ (n ≡ 6)) (eqb (fitting (limit - 4) (drop i due)) (length (drop i due))) (inl refl) (inr refl), statuses c)

  last_zero : All (λ e. 0 < length e.bytes) due → {i : ℕ} {t : List Answered} → Paged due i t → 0 < length t → (last_status t ≡ 0) ↔ (joined t ≡ bytes_of due)
  last_zero some_bytes {i} {t} c p = go (stand c)
    where
      go : Stand due i t → (last_status t ≡ 0) ↔ (joined t ≡ bytes_of due)
      go (fresh s z k) = absurd (omega arith)
      go (more s z k) = (
        λ y. absurd (omega arith),
        λ q. absurd (omega (
          arith,
          bytes_count due some_bytes i (length due) (omega arith) (omega arith)
              (ap length (sym (first_of_them c) ∙ q ∙ ap bytes_of (sym (take-length due)))),
        )),
      )
      go (done s z k) = (λ y. first_of_them c ∙ ap (λ (n : ℕ). bytes_of (take n due)) z ∙ ap bytes_of (take-length due), λ q. s)

  few : {i : ℕ} {t : List Answered} → Paged due i t → length t ≤ max 1 (length due)
  few {i} {t} c = go (stand c)
    where
      go : Stand due i t → length t ≤ max 1 (length due)
      go (fresh s z k) = omega arith
      go (more s z k) = omega arith
      go (done s z k) = k

  listed : All (λ e. 0 < length e.bytes) due → {i : ℕ} {t : List Answered} → Paged due i t → Listed due t
  listed some_bytes {i} c = record {
    entries = i;
    at_most = at_most c;
    first_of_them = first_of_them c;
    each_brings = each_brings c;
    statuses = statuses c;
    last_zero = last_zero some_bytes c;
    few = few c;
  }

-- ---- the list of turns

-- `page_law`: a page from a start ID on, answered at a limit. `Fits`: the states that it holds of, which ours and what may fall between keep
module _ {State Event : Type 0} (hear : Sent → State → Outcome) (after : Sent → State → State) (step : Event → State → State)
    (pages : State → Sent → ℕ → Type 0) (symbols : State → List Entry) (service first : ℕ) (Fits : State → Type 0) (between : Event → State → Type 0)
    (keeps : (s : Sent) (m : State) → Fits m → Fits (after s m))
    (stays : (e : Event) (m : State) → between e m → Fits m → Fits (step e m))
    (sorted : (m : State) → Fits m → Sorted id_of (symbols m))
    (some_bytes : (m : State) → Fits m → All (λ e. 0 < length e.bytes) (symbols m))
    (page_law : (s : Sent) (m : State) (id : ℕ) → Fits m → pages m s id → Replied (hear s m)
    → hear s m ≡ replied (page_reply service (from id_of id (symbols m)) s.limit))
    (kept : (s : Sent) (m : State) → Fits m → symbols (after s m) ≡ symbols m) where
  abbrev due_in : State → List Entry
  due_in m = from id_of first (symbols m)

  due_bytes : (m : State) → Fits m → All (λ e. 0 < length e.bytes) (due_in m)
  due_bytes m f = All-from id_of (λ e. 0 < length e.bytes) first (symbols m) (some_bytes m f)

  -- a page turn: what is heard is a page more or nothing
  turn : (D : List Entry) (o : Outcome) (limit i : ℕ) (t : List Answered) → Paged D i t → last_status t ≢ 0
      → (Replied o → All (λ e. 4 + length e.bytes ≤ limit) D) → (Replied o → o ≡ replied (page_reply service (drop i D) limit))
      → (j : ℕ) × Paged D j (heard 0 limit o t)
  unfolding page_reply reply
  turn D (refused k) limit i t c n l law = (i, c)
  turn D (replied r) limit i t c n l law =
      let same : r ≡ page_reply service (drop i D) limit = cc (law tt) in
      (i + fitting (limit - 4) (drop i D), rw (same, fits_first (limit - 4) (drop i D) (fit D limit i (l tt))) (next limit c n (l tt)))

  -- the start ID has what is not yet joined
  asked : (i : ℕ) (t : List Answered) (s : Sent) (m : State) → Fits m → Paged (due_in m) i t → Starts (pages m s) (due_in m) first t
      → Replied (hear s m) → hear s m ≡ replied (page_reply service (drop i (due_in m)) s.limit)
  asked i [] s m f c x r = rw (none-joined (due_in m) c) (page_law s m first f x r)
  asked i (a ∷ t) s m f c x r =
      let same : i ≡ suc x.0 = bytes_count (due_in m) (due_bytes m f) i (suc x.0) (at_most (due_in m) c) x.1
      (ap length (sym (first_of_them (due_in m) c)) ∙ x.2) in
      rw (same, ← from_next id_of first (symbols m) (sorted m f) x.0 x.1) (page_law s m _ f x.3 r)

  paged : (D : List Entry) (turns : List (Turn Event)) (m : State) (i : ℕ) (t : List Answered) → Fits m → due_in m ≡ D → Paged D i t
      → FairPages hear after step pages due_in first between m t turns → (j : ℕ) × Paged D j (talk hear after step 0 m t turns)
  unfolding FairPages talk
  paged D [] m i t f e c p = (i, c)
  paged D (ours s ∷ rest) m i t f e c p =
      let x = turn D (hear s m) s.limit i t c p.1 (rw e at p.2) (rw e at (asked i t s m f (rw e c) p.0)) in
      paged D rest (after s m) x.0 (heard 0 s.limit (hear s m) t) (keeps s m f) (ap (from id_of first) (kept s m f) ∙ e) x.1 p.3
  paged D (other u ∷ rest) m i t f e c (inl quiet) = (i, rw (quiet_talk hear after step 0 (step u m) t rest quiet) c)
  paged D (other u ∷ rest) m i t f e c (inr p) = paged D rest (step u m) i t (stays u m p.1 f) (p.0 ∙ e) c p.2

  pub pages_deliver : (m : State) (turns : List (Turn Event)) → Fits m → FairPages hear after step pages due_in first between m [] turns
      → Listed (due_in m) (talk hear after step 0 m [] turns)
  pages_deliver m turns f p = listed (due_in m) (due_bytes m f) (paged (due_in m) turns m 0 [] f refl start p).1
