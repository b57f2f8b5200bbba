-- The row that a lookup found, and the move to one of a structure's members.
-- Assumes nothing.
use mathlib.Core.Path.{◌≡◌, refl, sym, ap, ◌∙◌}
use mathlib.Core.Logic.{◌≢◌}
use mathlib.Core.Bool.{Bool, true, false}
use mathlib.Core.List.{List, []}
use Rattle.std.specs.Prelude.{Option, None, Some, Result, Ok, Err}
use Rattle.std.specs.Option.{ok_or}
use Prim.Native.Nat.{ℕ, ◌<◌}
use native.Mathlib.Omega.{arith}
use lib.Dec.{leb}
use lib.ListN.{length, get_or}
use borrow.Author.Tests.{eq-eqb, ne_eqb}
use Rattle.laws.specs.Pick.{is_empty}
use Rattle.laws.proofs.Chain.{clash}
use Rattle.laws.proofs.Tests.{scan-all, both-none}
use Rattle.definition.specs.Reply.{path_error}
use Rattle.definition.specs.Tables.{Tables, Flags, Row, members_of}
use Rattle.definition.specs.Types.{is_structure, structure_of}
use Rattle.definition.specs.Resolve.{turned, visible_member, member_of}
use Rattle.definition.specs.Lookup.{first, member_in, member_named, tag_in, id_in, program_in}
use Rattle.resolve.specs.declared.places.Place.{Place}
use Rattle.resolve.specs.Places.{first_of, open_lengths, place_of}

-- ---- the row that a lookup found

module _ {X E : Type 0} (o : Option X) (e : E) (r : Result X E) where
  pub found_none : (d : E) → r ≡ ok_or o e → r ≡ Err d → (o ≡ None) × (d ≡ e)
  found_none d p q = by_none o (sym p ∙ q)
    where
      by_none : (m : Option X) → ok_or m e ≡ Err d → (m ≡ None) × (d ≡ e)
      by_none None h = (refl, let k : e ≡ d = cc h in sym k)
      by_none (Some x) h = clash (cc h)

  pub found_some : (x : X) → r ≡ ok_or o e → r ≡ Ok x → o ≡ Some x
  found_some x p q = by_some o (sym p ∙ q)
    where
      by_some : (m : Option X) → ok_or m e ≡ Ok x → m ≡ Some x
      by_some None h = clash (cc h)
      by_some (Some y) h = let k : y ≡ x = cc h in ap Some k

first_inside : (p : Row → Bool) (rows : List Row) (i : ℕ) → first p rows ≡ Some i → i < length rows
first_inside p rows i = scan-all p (λ o. o ≡ Some i → i < length rows) Some None 0 rows (λ e. clash (cc e))
    (λ j h e. let k : j ≡ i = cc e in omega (arith, h, k))

pub member-inside : (members : List Row) (names name : List ℕ) (i : ℕ) → member_in members names name ≡ Some i → i < length members
unfolding member_in
member-inside members names name = first_inside _ members

pub tag-inside : (tags : List Row) (tag_names : List ℕ) (scope : ℕ) (name : List ℕ) (i : ℕ) → tag_in tags tag_names scope name ≡ Some i
    → i < length tags
unfolding tag_in
tag-inside tags tag_names scope name = first_inside _ tags

pub id-inside : (tags : List Row) (scope id i : ℕ) → id_in tags scope id ≡ Some i → i < length tags
unfolding id_in
id-inside tags scope id = first_inside _ tags

pub program_inside : (programs : List Row) (names name : List ℕ) (k : ℕ) → program_in programs names name ≡ Some k → k < length programs
unfolding program_in
program_inside programs names name = first_inside _ programs

-- ---- a member's conditions

module _ (t : Tables) (f : Flags) (name : List ℕ) (g : Place) where
  pub member_flat : is_structure g.ty ≡ false → turned path_error ≡ member_of t f name (place_of g)
  unfolding member_of
  member_flat h = rw h

  pub member_open : first_of g.lengths ≢ 0 → turned path_error ≡ member_of t f name (place_of g)
  unfolding member_of
  member_open h = rw (ne_eqb (first_of g.lengths) 0 h, both-none (leb 256 g.ty))

  pub member-bit : g.bit ≢ 8 → turned path_error ≡ member_of t f name (place_of g)
  unfolding member_of
  member-bit h = rw (ne_eqb g.bit 8 h, both-none (is_empty (open_lengths g.lengths)), both-none (leb 256 g.ty))

  module _ (h : is_structure g.ty ≡ true) (z : first_of g.lengths ≡ 0) (b : g.bit ≡ 8) where
    pub member_none : member_named t (structure_of t g.ty) name ≡ None → turned path_error ≡ member_of t f name (place_of g)
    unfolding member_of
    member_none e = rw (h, eq-eqb (first_of g.lengths) 0 z, eq-eqb g.bit 8 b, e)

    pub member_at : (i : ℕ) → member_named t (structure_of t g.ty) name ≡ Some i
        → visible_member f (place_of g) (get_or (members_of t (structure_of t g.ty)) i []) ≡ member_of t f name (place_of g)
    unfolding member_of
    member_at i e = rw (h, eq-eqb (first_of g.lengths) 0 z, eq-eqb g.bit 8 b, e)
