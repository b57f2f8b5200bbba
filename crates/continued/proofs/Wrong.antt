-- Wrong controllers against the claims: on each list below the premises hold, and the claim is refuted by computation. So the claims shut them out.
-- And wrong notions of an opening against the right controller: the premises hold in their sense, and the claim is refuted.
-- Assumes nothing.
use mathlib.Core.Path.{◌≡◌, refl, ap}
use mathlib.Core.Logic.{◌⊎◌, inr}
use mathlib.Core.List.{List, [], ◌∷◌}
use Prim.Native.Nat.{ℕ, zero, suc, ◌+◌, ◌-◌, ◌*◌, ◌/◌}
use native.Mathlib.Omega.{arith}
use lib.Dec.{lit≤, eqb}
use lib.ListN.{length, get_or, take}
use Rattle.laws.specs.Pick.{pick}
use Rattle.laws.specs.Put.{put}
use Rattle.definition.specs.Fragment.{reply_count}
use Rattle.definition.specs.Pallet.{pallet, pallet_flags, pallet_start, rows}
use Rattle.definition.specs.Segment.{class, instance}
use Rattle.definition.specs.Page.{bytes_of}
use Rattle.definition.specs.Read.{selected_bytes}
use Rattle.definition.specs.Symbols.{due}
use Rattle.definition.specs.Entry.{Outcome, refused, replied, Entered}
use Rattle.continued.specs.Reads.{Sent, Turn, ours, joined, talk, Fair, Delivered}
use Rattle.continued.specs.Pages.{FairPages, Listed}
use Rattle.continued.specs.Point3.{Memory, respond, Event, Between, Asks, Reads, open_request, AsksPage, Pages, page_request}
use Rattle.continued.proofs.Examples.{computed, sent, rows_path, granted-rows, row, row-asks, opening, opening_asks}

-- ---- a controller that is the definition's but for its requests or its replies

abbrev Controller : Type 0
Controller = Sent → Memory → Entered

abbrev right : Controller
right s m = respond pallet pallet_flags s m

abbrev on_reply : (List ℕ → List ℕ) → Outcome → Outcome
on_reply f (refused k) = refused k
on_reply f (replied r) = replied (f r)

-- its replies are changed
abbrev replying : (List ℕ → List ℕ) → Controller
replying f s m = let e = right s m in record { outcome = on_reply f e.outcome; buffer = e.buffer; memory = e.memory }

-- one byte of the request, which stands at a position, is taken for another
abbrev mistaking : (at : ℕ) → (ℕ → ℕ) → Controller
mistaking at f s m = right (record { request = put s.request at (f (get_or s.request at 0) ∷ []); limit = s.limit; buffer = s.buffer }) m

abbrev hearing : Controller → Sent → Memory → Outcome
hearing w s m = (w s m).outcome

abbrev leaving : Controller → Sent → Memory → Memory
leaving w s m = (w s m).memory

abbrev still : Event → Memory → Memory
still e m = m

-- ---- reads of all of `Rows`; the offset's first byte stands at 10

abbrev Undelivered : Controller → List (Turn Event) → Type 0
Undelivered w turns = Delivered (selected_bytes granted-rows.selected pallet_start) 2 (talk (hearing w) (leaving w) still 2 pallet_start [] turns) → ⊥

abbrev RefutedBy : (reads : Memory → Sent → ℕ → Type 0) → Controller → List (Turn Event) → Type 0
RefutedBy reads w turns =
    Fair (hearing w) (leaving w) still reads (selected_bytes granted-rows.selected) Between 2 pallet_start [] turns × Undelivered w turns

abbrev Refuted : Controller → List (Turn Event) → Type 0
Refuted w turns = RefutedBy (Reads rows_path 10) w turns

-- one byte is skipped
skips : Refuted (mistaking 10 suc) (row 22 0 ∷ [])
unfolding computed granted-rows put
skips = (
  (row-asks 0 (lit≤ tt), omega arith, λ r. lit≤ tt, tt),
  λ d. let z : ◌≡◌ {A = ℕ} 2 1 = ap (λ (l : List ℕ). get_or l 0 0) d.first_of_them in omega arith,
)

-- a byte comes twice
repeats : Refuted (mistaking 10 (λ n. n - 1)) (row 22 0 ∷ row 22 16 ∷ [])
unfolding computed granted-rows put
repeats = (
  (row-asks 0 (lit≤ tt), omega arith, λ r. lit≤ tt, (row-asks 16 (lit≤ tt), omega arith, λ r. lit≤ tt, tt)),
  λ d. let z : ◌≡◌ {A = ℕ} 16 17 = ap (λ (l : List ℕ). get_or l 16 0) d.first_of_them in omega arith,
)

-- status 0 too early
ends_early : Refuted (replying (λ r. put r 2 (0 ∷ []))) (row 22 0 ∷ [])
unfolding computed granted-rows put
ends_early = (
  (row-asks 0 (lit≤ tt), omega arith, λ r. lit≤ tt, tt),
  λ d. let z : ◌≡◌ {A = ℕ} 16 40 = ap length (d.last_zero.0 refl) in omega arith,
)

-- status 0 never
never_ends : Refuted (replying (λ r. put r 2 (6 ∷ []))) (row 100 0 ∷ [])
unfolding computed granted-rows put
never_ends = (
  (row-asks 0 (lit≤ tt), omega arith, λ r. lit≤ tt, tt),
  λ d. let z : ◌≡◌ {A = ℕ} 6 0 = d.last_zero.1 refl in omega arith,
)

-- whole elements only, also where less than one fits: at limit 9 nothing comes
rounds_all : Refuted (replying (λ r. take (6 + (length r - 6) / 4 * 4) r)) (row 9 0 ∷ [])
unfolding computed granted-rows
rounds_all = ((row-asks 0 (lit≤ tt), omega arith, λ r. lit≤ tt, tt), λ d. omega (arith, d.each_brings.0))

-- the first fragment, then status 0 with nothing
gives_up : Refuted (λ s m. replying (λ r. pick (eqb (get_or s.request 10 0) 0) r (0xD2 ∷ 0 ∷ 0 ∷ 0 ∷ 0xC4 ∷ 0 ∷ [])) s m) (row 22 0 ∷ row 22 16 ∷ [])
unfolding computed granted-rows
gives_up =
    ((row-asks 0 (lit≤ tt), omega arith, λ r. lit≤ tt, (row-asks 16 (lit≤ tt), omega arith, λ r. lit≤ tt, tt)), λ d. omega (arith, d.each_brings.0))

-- four bytes at a time whatever the limit: too many reads
crawls : Refuted (λ s m. right (record { request = s.request; limit = 10; buffer = s.buffer }) m) (row 22 0 ∷ row 22 4 ∷ row 22 8 ∷ row 22 12 ∷ [])
unfolding computed granted-rows reply_count
crawls = (
  (
    row-asks 0 (lit≤ tt),
    omega arith,
    λ r. lit≤ tt,
    (
      row-asks 4 (lit≤ tt),
      omega arith,
      λ r. lit≤ tt,
      (row-asks 8 (lit≤ tt), omega arith, λ r. lit≤ tt, (row-asks 12 (lit≤ tt), omega arith, λ r. lit≤ tt, tt)),
    ),
  ),
  λ d. omega (arith, d.few (lit≤ tt)),
)

-- ---- wrong notions of an opening

-- a 0x4C at any offset: the second one brings the first bytes again
opens_anywhere : RefutedBy (λ m s offset. Asks rows_path 10 s.request offset ⊎ (s.request ≡ open_request rows 10)) right (opening 22 ∷ opening 22 ∷ [])
unfolding computed granted-rows
opens_anywhere = (
  (inr refl, omega arith, λ r. lit≤ tt, (inr refl, omega arith, λ r. lit≤ tt, tt)),
  λ d. let z : ◌≡◌ {A = ℕ} 1 17 = ap (λ (l : List ℕ). get_or l 16 0) d.first_of_them in omega arith,
)

-- a 0x4C without a bound on its limit: at limit 6 it brings nothing
opens_at_6 : Asks rows_path 10 (open_request rows 10) 0 × Undelivered right (opening 6 ∷ [])
unfolding computed granted-rows
opens_at_6 = (opening_asks, λ d. omega (arith, d.each_brings.0))

-- ---- pages of the controller's symbols, names and types; the start ID's byte stands at 5

abbrev attributes : List ℕ
attributes = 1 ∷ 2 ∷ []

abbrev page : (limit id : ℕ) → Turn Event
page limit id = ours (sent (page_request (0x20 ∷ 0x6B ∷ 0x24 ∷ id ∷ []) attributes) limit)

abbrev RefutedPages : Controller → List (Turn Event) → Type 0
RefutedPages w turns =
    FairPages (hearing w) (leaving w) still (Pages pallet 0 attributes) (λ m. due pallet 0 attributes 0) 0 Between pallet_start [] turns
    × (Listed (due pallet 0 attributes 0) (talk (hearing w) (leaving w) still 0 pallet_start [] turns) → ⊥)

page_asks : (id : ℕ) → AsksPage pallet 0 attributes (page_request (0x20 ∷ 0x6B ∷ 0x24 ∷ id ∷ []) attributes) id
unfolding computed
page_asks id = record { path = class 0x6B ∷ instance id ∷ []; body = 2 ∷ 0 ∷ 1 ∷ 0 ∷ 2 ∷ 0 ∷ []; is = refl; starts = refl; list_is = refl }

-- the second page leaves ID 2 out: it has as many bytes as the right one, so that a byte of its ID tells
leaves-out : RefutedPages (mistaking 5 (λ n. pick (eqb n 0) n (suc n))) (page 17 0 ∷ page 17 2 ∷ [])
unfolding computed put
leaves-out = (
  (
    page_asks 0,
    omega arith,
    λ r. (lit≤ tt, (lit≤ tt, (lit≤ tt, tt))),
    ((0, lit≤ tt, refl, page_asks 2), omega arith, λ r. (lit≤ tt, (lit≤ tt, (lit≤ tt, tt))), tt),
  ),
  λ d. go d.entries d.first_of_them,
)
  where
    go : (n : ℕ) → joined (talk (hearing (mistaking 5 (λ n. pick (eqb n 0) n (suc n))))
        (leaving (mistaking 5 (λ n. pick (eqb n 0) n (suc n)))) still 0 pallet_start []
        (page 17 0 ∷ page 17 2 ∷ [])) ≡ bytes_of (take n (due pallet 0 attributes 0)) → ⊥
    go zero e = let z : ◌≡◌ {A = ℕ} 25 0 = ap length e in omega arith
    go (suc zero) e = let z : ◌≡◌ {A = ℕ} 25 13 = ap length e in omega arith
    go (suc (suc zero)) e = let z : ◌≡◌ {A = ℕ} 0xFF 2 = ap (λ (l : List ℕ). get_or l 13 0) e in omega arith
    go (suc (suc (suc n))) e = let z : ◌≡◌ {A = ℕ} 0xFF 2 = ap (λ (l : List ℕ). get_or l 13 0) e in omega arith

-- each page begins again with the entry before
begins_again : RefutedPages (mistaking 5 (λ n. n - 1)) (page 29 0 ∷ page 29 3 ∷ [])
unfolding computed put
begins_again = (
  (
    page_asks 0,
    omega arith,
    λ r. (lit≤ tt, (lit≤ tt, (lit≤ tt, tt))),
    ((1, lit≤ tt, refl, page_asks 3), omega arith, λ r. (lit≤ tt, (lit≤ tt, (lit≤ tt, tt))), tt),
  ),
  λ d. let z : ◌≡◌ {A = ℕ} 49 37 = ap length ((d.last_zero (lit≤ tt)).0 refl) in omega arith,
)

-- status 0 too early
page_ends_early : RefutedPages (replying (λ r. put r 2 (0 ∷ []))) (page 29 0 ∷ [])
unfolding computed put
page_ends_early = (
  (page_asks 0, omega arith, λ r. (lit≤ tt, (lit≤ tt, (lit≤ tt, tt))), tt),
  λ d. let z : ◌≡◌ {A = ℕ} 25 37 = ap length ((d.last_zero (lit≤ tt)).0 refl) in omega arith,
)

-- status 0 never
page_never_ends : RefutedPages (replying (λ r. put r 2 (6 ∷ []))) (page 100 0 ∷ [])
unfolding computed put
page_never_ends = (
  (page_asks 0, omega arith, λ r. (lit≤ tt, (lit≤ tt, (lit≤ tt, tt))), tt),
  λ d. let z : ◌≡◌ {A = ℕ} 6 0 = (d.last_zero (lit≤ tt)).1 refl in omega arith,
)
