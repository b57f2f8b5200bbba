-- The same paths give the same segments (document 02, P5): `segment_at`, whose steps stand in the volume's order, is the former one for all paths and
-- positions.
-- The former text tested the format, 3 being of no kind, before the logical type, and took every form but 0 and 1 for 32 bits.
-- Assumes nothing.
use mathlib.Core.Path.{◌≡◌, refl, ap, fun_ext}
use mathlib.Core.Bool.{true, false}
use mathlib.Core.List.{List}
use Rattle.std.specs.Prelude.{Option}
use Prim.Native.Nat.{ℕ, ◌+◌, ◌<◌, ◌%◌}
use native.Mathlib.Omega.{arith}
use lib.Bits.{bit_and}
use lib.Dec.{ltb, leb, eqb}
use lib.ListN.{length, get_or}
use borrow.Author.Tests.{eqb-true, eqb-false}
use Rattle.laws.specs.Pick.{pick}
use Rattle.laws.specs.Items.{items}
use Rattle.laws.proofs.Chain.{by_test, pick_all}
use Rattle.definition.specs.Bytes.{u16_at, u32_at, part}
use Rattle.definition.specs.Segment.{Segment, port, class, instance, element, attribute, symbol, Kind, port_kind, class_kind, instance_kind, element_kind, attribute_kind, symbol_kind, no_kind, logical_type, form, kind_of, Step, step, cut, logical_at, sized_at, link_at, port_at, by_kind, segment_at, next_of, only_segments, segments_from}

-- ---- the former text: each function of `Segment` that `segment_at` rests on; types, numbers and parts of bytes, `next_of` and `only_segments` have stayed

abbrev pub former_logical_type : ℕ → Kind
former_logical_type t =
    pick (eqb t 0x00) class_kind
    (pick (eqb t 0x04) instance_kind
    (pick (eqb t 0x08) element_kind
    (pick (eqb t 0x10) attribute_kind no_kind)))

abbrev pub former_form : ℕ → ℕ
former_form b = b % 4

unfoldable pub former_kind_of : ℕ → Kind
former_kind_of b =
    pick (ltb b 0x20) port_kind
    (pick (ltb b 0x40) (pick (eqb (former_form b) 3) no_kind (former_logical_type (bit_and b 0x1C)))
    (pick (eqb b 0x91) symbol_kind no_kind))

abbrev pub former_within : (path : List ℕ) (at need : ℕ) → Segment → Step
former_within path at need s = pick (leb (at + need) (length path)) (step s (at + need)) cut

unfoldable pub former_logical_at : (path : List ℕ) (at : ℕ) (f : ℕ) → (ℕ → Segment) → Step
former_logical_at path at f make =
    pick (eqb f 0) (former_within path at 1 (make (get_or path at 0)))
    (pick (eqb f 1) (former_within path at 3 (make (u16_at path (at + 1))))
    (former_within path at 5 (make (u32_at path (at + 1)))))

unfoldable pub former_sized_at : (path : List ℕ) (at : ℕ) → (List ℕ → Segment) → Step
former_sized_at path at make =
    let n = get_or path at 0 in
    pick (ltb at (length path)) (former_within path (at + 1) (n + n % 2) (make (part path (at + 1) n))) cut

unfoldable pub former_link_at : (path : List ℕ) (at b : ℕ) → Step
former_link_at path at b = pick (ltb b 0x10) (former_within path at 1 port) (former_sized_at path at (λ link. port))

unfoldable pub former_port_at : (path : List ℕ) (at b : ℕ) → Step
former_port_at path at b = pick (eqb (b % 16) 15) (former_link_at path (at + 2) b) (former_link_at path at b)

abbrev pub former_by_kind : Kind → (path : List ℕ) (at b : ℕ) → Step
former_by_kind port_kind path at b = former_port_at path at b
former_by_kind class_kind path at b = former_logical_at path at (former_form b) class
former_by_kind instance_kind path at b = former_logical_at path at (former_form b) instance
former_by_kind element_kind path at b = former_logical_at path at (former_form b) element
former_by_kind attribute_kind path at b = former_logical_at path at (former_form b) attribute
former_by_kind symbol_kind path at b = former_sized_at path at symbol
former_by_kind no_kind path at b = cut

unfoldable pub former_segment_at : (path : List ℕ) (at : ℕ) → Step
former_segment_at path at = let b = get_or path at 0 in former_by_kind (former_kind_of b) path (at + 1) b

unfoldable pub former_segments_from : (path : List ℕ) (at : ℕ) → Option (List Segment)
former_segments_from path at = only_segments (items (former_segment_at path) next_of (length path) (length path) at)

-- ---- what follows a first byte

module _ (path : List ℕ) (at : ℕ) where
  -- the reserved format is refused now at the format, whatever the logical type
  reserved : (b t : ℕ) → eqb (form b) 3 ≡ true → by_kind (logical_type t) path at b ≡ cut
  unfolding logical_at
  reserved b t e =
      let P : Kind → Type 0 = λ k. by_kind k path at b ≡ cut in
      let f = eqb-true (form b) 3 e in
      pick_all P (eqb t 0x00) (rw f)
      (pick_all P (eqb t 0x04) (rw f)
      (pick_all P (eqb t 0x08) (rw f)
      (pick_all P (eqb t 0x10) (rw f) refl)))

  -- below 4, what is not 0, 1 or 3 is 2
  same_value : (f : ℕ) (make : ℕ → Segment) → f < 4 → eqb f 3 ≡ false → logical_at path at f make ≡ former_logical_at path at f make
  unfolding logical_at former_logical_at
  same_value f make h e =
      by_test (eqb f 0) (λ t. rw t)
      (λ t. by_test (eqb f 1) (λ u. rw (t, u))
      (λ u. by_test (eqb f 2) (λ v. rw (t, u, v)) (λ v. absurd (omega (arith, eqb-false f 0 t, eqb-false f 1 u, eqb-false f 2 v, eqb-false f 3 e)))))

  same_sized : (make : List ℕ → Segment) → sized_at path at make ≡ former_sized_at path at make
  unfolding sized_at former_sized_at
  same_sized make = refl

  same_port : (b : ℕ) → port_at path at b ≡ former_port_at path at b
  unfolding port_at link_at sized_at former_port_at former_link_at former_sized_at
  same_port b = refl

  same_kind : (k : Kind) (b : ℕ) → eqb (form b) 3 ≡ false → by_kind k path at b ≡ former_by_kind k path at b
  same_kind port_kind b e = same_port b
  same_kind class_kind b e = same_value (form b) class (omega arith) e
  same_kind instance_kind b e = same_value (form b) instance (omega arith) e
  same_kind element_kind b e = same_value (form b) element (omega arith) e
  same_kind attribute_kind b e = same_value (form b) attribute (omega arith) e
  same_kind symbol_kind b e = same_sized symbol
  same_kind no_kind b e = refl

  same_step : (b : ℕ) → by_kind (kind_of b) path at b ≡ former_by_kind (former_kind_of b) path at b
  unfolding kind_of former_kind_of
  same_step b =
      by_test (ltb b 0x20) (λ p. rw p (same_port b))
      (λ p. by_test (ltb b 0x40)
      (λ q. by_test (eqb (form b) 3) (λ e. rw (p, q, e) (reserved b (bit_and b 0x1C) e)) (λ e. rw (p, q, e) (same_kind (logical_type (bit_and b 0x1C)) b e)))
      (λ q. by_test (eqb b 0x91) (λ r. rw (p, q, r) (same_sized symbol)) (λ r. rw (p, q, r))))

-- ---- the segment at a position, and the segments of a path, as functions

pub same_segment : (path : List ℕ) (at : ℕ) → segment_at path at ≡ former_segment_at path at
unfolding segment_at former_segment_at
same_segment path at = same_step path (at + 1) (get_or path at 0)

pub same_segments : segments_from ≡ former_segments_from
unfolding segments_from former_segments_from
same_segments =
    fun_ext (λ path. fun_ext (λ at. ap (λ s. only_segments (items s next_of (length path) (length path) at)) (fun_ext (same_segment path))))
