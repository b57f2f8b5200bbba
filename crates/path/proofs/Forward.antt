-- What a first byte begins, by the table's entry; and a segment ends after its start and in the path.
-- Assumes nothing.
use mathlib.Core.Path.{◌≡◌, refl, subst, sym}
use mathlib.Core.Bool.{Bool, true, false, not}
use mathlib.Core.List.{List}
use Rattle.std.specs.Prelude.{None, Some}
use Prim.Native.Nat.{ℕ, ◌+◌, ◌<◌, ◌≤◌, ◌%◌}
use native.Mathlib.Omega.{arith}
use lib.Dec.{ltb, leb, eqb}
use lib.ListN.{length, get_or}
use borrow.Author.Tests.{leb-true, eqb-true, eqb-false}
use Rattle.laws.specs.Pick.{pick}
use Rattle.laws.proofs.Chain.{by_test, pick_all, clash}
use Rattle.laws.proofs.Tests.{pick_by}
use Rattle.definition.specs.Segment.{Segment as Defined, port, class, instance, element, attribute, symbol, Kind, port_kind, class_kind, instance_kind, element_kind, attribute_kind, symbol_kind, no_kind, form, kind_of, Step, step, cut, within, logical_at, sized_at, link_at, port_at, by_kind, segment_at, next_of}
use Rattle.path.specs.First.{format_of, bits_of, first_by, first_of, logical_of}
use Rattle.path.specs.Paths.{link_end}
use Rattle.path.specs.declared.table.First.TheVariants.{Port, Logical, Symbol}
use Rattle.path.specs.declared.table.Logical.{Logical as LogicalType}
use Rattle.path.specs.declared.table.Logical.TheVariants.{Class, Instance, Element, Attribute}
use Rattle.path.specs.declared.table.Format.{Format}

-- ---- a segment ends after its start and in the path

module _ (path : List ℕ) (at : ℕ) where
  abbrev Later : Step → Type 0
  Later (step s next) = (at < next) × (next ≤ length path)
  Later cut = Unit {0}

  later_within : (p need : ℕ) (s : Defined) → at < p + need → Later (within path p need s)
  later_within p need s h = pick_by Later (leb (p + need) (length path)) (λ t. (h, leb-true _ _ t)) (λ t. tt)

  later_logical : (p f : ℕ) (make : ℕ → Defined) → at < p → Later (logical_at path p f make)
  unfolding logical_at
  later_logical p f make h =
      pick_all Later (eqb f 0) (later_within p 1 _ (omega arith))
      (pick_all Later (eqb f 1) (later_within p 3 _ (omega arith)) (pick_all Later (eqb f 2) (later_within p 5 _ (omega arith)) tt))

  later_sized : (p : ℕ) (make : List ℕ → Defined) → at < p → Later (sized_at path p make)
  unfolding sized_at
  later_sized p make h = let n = get_or path p 0 in pick_all Later (ltb p (length path)) (later_within (p + 1) (n + n % 2) _ (omega arith)) tt

  later_link : (p b : ℕ) → at < p → Later (link_at path p b)
  unfolding link_at
  later_link p b h = pick_all Later (ltb b 0x10) (later_within p 1 port (omega arith)) (later_sized p _ h)

  later_kind : (k : Kind) (p b : ℕ) → at < p → Later (by_kind k path p b)
  unfolding port_at
  later_kind port_kind p b h = pick_all Later (eqb (b % 16) 15) (later_link (p + 2) b (omega arith)) (later_link p b h)
  later_kind class_kind p b h = later_logical p (form b) class h
  later_kind instance_kind p b h = later_logical p (form b) instance h
  later_kind element_kind p b h = later_logical p (form b) element h
  later_kind attribute_kind p b h = later_logical p (form b) attribute h
  later_kind symbol_kind p b h = later_sized p symbol h
  later_kind no_kind p b h = tt

  later : Later (segment_at path at)
  unfolding segment_at
  later = later_kind (kind_of (get_or path at 0)) (at + 1) (get_or path at 0) (omega arith)

  pub step_inside : (s : Defined) (next : ℕ) → segment_at path at ≡ step s next → (at < next) × (next ≤ length path)
  step_inside s next e = subst Later e later

  ahead : (x : Step) → Later x → (next_of x ≡ 0 → ⊥) → at < next_of x
  ahead (step s next) l h = l.0
  ahead cut l h = absurd (h refl)

  outside : (x : Step) → Later x → length path ≤ at → x ≡ cut
  outside (step s next) l h = absurd (omega (arith, l.0, l.1))
  outside cut l h = refl

  pub forward : (next_of (segment_at path at) ≡ 0 → ⊥) → at < next_of (segment_at path at)
  forward = ahead (segment_at path at) later

  pub past_end : length path ≤ at → segment_at path at ≡ cut
  past_end = outside (segment_at path at) later

-- ---- what follows a first byte, by its entry

bits_is : (f : ℕ) → f < 4 → bits_of (format_of f) ≡ f
bits_is f h =
    by_test (eqb f 0) (λ t. rw t (sym (eqb-true f 0 t)))
    (λ z. by_test (eqb f 1) (λ t. rw (z, t) (sym (eqb-true f 1 t)))
    (λ o. by_test (eqb f 2) (λ t. rw (z, o, t) (sym (eqb-true f 2 t)))
    (λ t. let three : 3 ≡ f = omega (arith, eqb-false f 0 z, eqb-false f 1 o, eqb-false f 2 t) in rw (z, o, t) three)))

pick_not : {A : Type 0} (t : Bool) (a b : A) → pick t a b ≡ pick (not t) b a
pick_not true a b = refl
pick_not false a b = refl

module _ (path : List ℕ) (at b : ℕ) where
  none_by : (k : Kind) → first_by k b ≡ None → by_kind k path at b ≡ cut
  none_by no_kind e = refl
  none_by port_kind e = clash (cc e)
  none_by class_kind e = clash (cc e)
  none_by instance_kind e = clash (cc e)
  none_by element_kind e = clash (cc e)
  none_by attribute_kind e = clash (cc e)
  none_by symbol_kind e = clash (cc e)

  link_is : (p : ℕ) → link_at path p b ≡ link_end path p (not (ltb b 0x10))
  unfolding link_at
  link_is p = pick_not (ltb b 0x10) _ _

  port_is : (t : Bool) → pick t (link_at path (at + 2) b) (link_at path at b) ≡ link_end path (pick t (at + 2) at) (not (ltb b 0x10))
  port_is true = link_is (at + 2)
  port_is false = link_is at

  port_by : (numbered sized : Bool) (k : Kind) → first_by k b ≡ Some (Port numbered sized)
      → by_kind k path at b ≡ link_end path (pick numbered (at + 2) at) sized
  unfolding port_at
  port_by n s no_kind e = clash (cc e)
  port_by n s port_kind e =
      let p : eqb (b % 16) 15 ≡ n = cc e in
      let q : not (ltb b 0x10) ≡ s = cc e in
      rw (← p, ← q) (port_is (eqb (b % 16) 15))
  port_by n s class_kind e = clash (cc e)
  port_by n s instance_kind e = clash (cc e)
  port_by n s element_kind e = clash (cc e)
  port_by n s attribute_kind e = clash (cc e)
  port_by n s symbol_kind e = clash (cc e)

  logical_is : (l m : LogicalType) (f : Format) → m ≡ l → format_of (form b) ≡ f
      → logical_at path at (form b) (logical_of m) ≡ logical_at path at (bits_of f) (logical_of l)
  logical_is l m f e g = rw (e, ← g, bits_is (form b) (omega arith)) refl

  logical_by : (l : LogicalType) (f : Format) (k : Kind) → first_by k b ≡ Some (Logical l f)
      → by_kind k path at b ≡ logical_at path at (bits_of f) (logical_of l)
  logical_by l f no_kind e = clash (cc e)
  logical_by l f port_kind e = clash (cc e)
  logical_by l f class_kind e = logical_is l Class f (cc e) (cc e)
  logical_by l f instance_kind e = logical_is l Instance f (cc e) (cc e)
  logical_by l f element_kind e = logical_is l Element f (cc e) (cc e)
  logical_by l f attribute_kind e = logical_is l Attribute f (cc e) (cc e)
  logical_by l f symbol_kind e = clash (cc e)

  symbol_by : (k : Kind) → first_by k b ≡ Some Symbol → by_kind k path at b ≡ sized_at path at symbol
  symbol_by no_kind e = clash (cc e)
  symbol_by port_kind e = clash (cc e)
  symbol_by class_kind e = clash (cc e)
  symbol_by instance_kind e = clash (cc e)
  symbol_by element_kind e = clash (cc e)
  symbol_by attribute_kind e = clash (cc e)
  symbol_by symbol_kind e = refl

module _ (path : List ℕ) (at : ℕ) where
  pub first-none : first_of (get_or path at 0) ≡ None → segment_at path at ≡ cut
  unfolding first_of segment_at
  first-none e = none_by path (at + 1) (get_or path at 0) (kind_of (get_or path at 0)) e

  pub first-port : (numbered sized : Bool) → first_of (get_or path at 0) ≡ Some (Port numbered sized)
      → segment_at path at ≡ link_end path (pick numbered (at + 1 + 2) (at + 1)) sized
  unfolding first_of segment_at
  first-port n s e = port_by path (at + 1) (get_or path at 0) n s (kind_of (get_or path at 0)) e

  pub first-logical : (l : LogicalType) (f : Format) → first_of (get_or path at 0) ≡ Some (Logical l f)
      → segment_at path at ≡ logical_at path (at + 1) (bits_of f) (logical_of l)
  unfolding first_of segment_at
  first-logical l f e = logical_by path (at + 1) (get_or path at 0) l f (kind_of (get_or path at 0)) e

  pub first-symbol : first_of (get_or path at 0) ≡ Some Symbol → segment_at path at ≡ sized_at path (at + 1) symbol
  unfolding first_of segment_at
  first-symbol e = symbol_by path (at + 1) (get_or path at 0) (kind_of (get_or path at 0)) e
