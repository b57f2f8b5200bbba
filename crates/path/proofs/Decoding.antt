-- A symbol's name stands two bytes behind its segment's start, in the path: what the definition's segment at a position says of it.
-- Assumes nothing.
use mathlib.Core.Path.{◌≡◌, refl, subst, sym}
use mathlib.Core.List.{List}
use Rattle.std.specs.Prelude.{Option, None, Some}
use Prim.Native.Nat.{ℕ, ◌+◌, ◌≤◌, ◌%◌}
use native.Mathlib.Omega.{arith}
use lib.Dec.{ltb, leb, eqb}
use lib.ListN.{length, get_or}
use borrow.Author.Tests.{leb-true}
use Rattle.laws.proofs.Chain.{pick_all}
use Rattle.laws.proofs.Put.{length_part}
use Rattle.laws.proofs.Tests.{pick_by}
use Rattle.definition.specs.Bytes.{part}
use Rattle.definition.specs.Segment.{Segment as Defined, port, class, instance, element, attribute, symbol, Kind, port_kind, class_kind, instance_kind, element_kind, attribute_kind, symbol_kind, no_kind, form, kind_of, Step, step, cut, logical_at, sized_at, link_at, port_at, by_kind, segment_at}
use Rattle.path.specs.Paths.{segment_of, step_of, NameStands, NameInside, Decoded}
use Rattle.path.specs.declared.Segment.{Segment}
use Rattle.path.specs.declared.Segment.TheVariants.{Port, Class, Instance, Element, Attribute, Symbol}
use Rattle.path.specs.declared.Step.{Step as Found}

module _ (path : List ℕ) (at : ℕ) where
  abbrev Named : Step → Type 0
  Named (step port next) = Unit {0}
  Named (step (class x) next) = Unit {0}
  Named (step (instance x) next) = Unit {0}
  Named (step (element x) next) = Unit {0}
  Named (step (attribute x) next) = Unit {0}
  Named (step (symbol name) next) = (name ≡ part path (at + 2) (length name)) × (at + 2 + length name ≤ length path)
  Named cut = Unit {0}

  named_logical : (p f : ℕ) (make : ℕ → Defined) → ((x next : ℕ) → Named (step (make x) next)) → Named (logical_at path p f make)
  unfolding logical_at
  named_logical p f make h =
      pick_all Named (eqb f 0) (pick_all Named (leb (p + 1) (length path)) (h _ _) tt)
      (pick_all Named (eqb f 1) (pick_all Named (leb (p + 3) (length path)) (h _ _) tt)
      (pick_all Named (eqb f 2) (pick_all Named (leb (p + 5) (length path)) (h _ _) tt) tt))

  named_link : (p b : ℕ) → Named (link_at path p b)
  unfolding link_at sized_at
  named_link p b =
      pick_all Named (ltb b 0x10) (pick_all Named (leb (p + 1) (length path)) tt tt)
      (let n = get_or path p 0 in pick_all Named (ltb p (length path)) (pick_all Named (leb (p + 1 + (n + n % 2)) (length path)) tt tt) tt)

  named_port : (p b : ℕ) → Named (port_at path p b)
  unfolding port_at
  named_port p b = pick_all Named (eqb (b % 16) 15) (named_link (p + 2) b) (named_link p b)

  named_symbol : Named (sized_at path (at + 1) symbol)
  unfolding sized_at
  named_symbol =
      let n = get_or path (at + 1) 0 in
      let start : at + 1 + 1 ≡ at + 2 = omega arith in
      pick_all Named (ltb (at + 1) (length path))
      (pick_by Named (leb (at + 1 + 1 + (n + n % 2)) (length path)) (λ t.
      let h = leb-true (at + 1 + 1 + (n + n % 2)) (length path) t in
      let long : length (part path (at + 1 + 1) n) ≡ n = length_part path (at + 1 + 1) n (omega arith) in
      (rw (long, start) refl, omega (arith, long))) (λ t. tt)) tt

  named_kind : (k : Kind) (b : ℕ) → Named (by_kind k path (at + 1) b)
  named_kind port_kind b = named_port (at + 1) b
  named_kind class_kind b = named_logical (at + 1) (form b) class (λ x next. tt)
  named_kind instance_kind b = named_logical (at + 1) (form b) instance (λ x next. tt)
  named_kind element_kind b = named_logical (at + 1) (form b) element (λ x next. tt)
  named_kind attribute_kind b = named_logical (at + 1) (form b) attribute (λ x next. tt)
  named_kind symbol_kind b = named_symbol
  named_kind no_kind b = tt

  named : Named (segment_at path at)
  unfolding segment_at
  named = named_kind (kind_of (get_or path at 0)) (get_or path at 0)

  stands : (s : Segment) (next : ℕ) → Named (step (segment_of s) next) → NameStands path at s
  stands Port next h = tt
  stands (Class x) next h = tt
  stands (Instance x) next h = tt
  stands (Element x) next h = tt
  stands (Attribute x) next h = tt
  stands (Symbol name) next h = h

  inside : (r : Option Found) → Named (step_of r) → NameInside path at r
  inside None h = tt
  inside (Some s) h = stands s.segment s.next h

  pub decoded : (r : Option Found) → step_of r ≡ segment_at path at → Decoded path at r
  decoded r e = record { is = e; name_inside = inside r (subst Named (sym e) named) }
