-- The class and the instance at a position, by the segments that the decoder found there and behind it.
-- Assumes nothing.
use mathlib.Core.Path.{◌≡◌, refl, sym, ap}
use mathlib.Core.Bool.{true}
use mathlib.Core.List.{List, [], ◌∷◌}
use Rattle.std.specs.Prelude.{Option, None, Some}
use Prim.Native.Nat.{ℕ}
use Rattle.laws.specs.Pick.{is_some}
use Rattle.laws.specs.Items.{before}
use Rattle.laws.proofs.Chain.{clash}
use Rattle.definition.specs.Segment.{Segment as Defined, port, class, instance, element, attribute, symbol, Step, step, cut, segment_at, segments_from, class_of, instance_of}
use Rattle.definition.specs.Request.{no_object, object_of}
use Rattle.path.specs.declared.Segment.{Segment}
use Rattle.path.specs.declared.Segment.TheVariants.{Port, Class, Instance, Element, Attribute, Symbol}
use Rattle.path.specs.Paths.{segment_of, instance_in, ObjectFound, ObjectAt}
use Rattle.path.proofs.Segments.{segments_step, first_at, none_at}

-- ---- a path whose first segment is no class, or whose second is no instance

not-class : (s : Defined) (l : List Defined) → class_of s ≡ None → object_of (s ∷ l) ≡ no_object
not-class s [] e = refl
not-class s (u ∷ l) e = rw e

not-instance : (c : ℕ) (s : Defined) (l : List Defined) → instance_of s ≡ None → object_of (class c ∷ (s ∷ l)) ≡ no_object
not-instance c s l e = rw e

module _ (path : List ℕ) (at : ℕ) where
  no_class_at : (s : Defined) (next : ℕ) → segment_at path at ≡ step s next → class_of s ≡ None → ObjectAt path at None
  no_class_at s next e n = first_at path at (λ l. object_of l ≡ no_object) s next e (λ l g. not-class s l n)

  -- what stands behind a class and is no instance
  no_instance_at : (c : ℕ) (s : Defined) (next : ℕ) → segment_at path at ≡ step s next → instance_of s ≡ None
      → (l : List Defined) → segments_from path at ≡ Some l → object_of (class c ∷ l) ≡ no_object
  no_instance_at c s next e n = first_at path at (λ l. object_of (class c ∷ l) ≡ no_object) s next e (λ l g. not-instance c s l n)

module _ (path : List ℕ) (at c next : ℕ) (first : segment_at path at ≡ step (class c) next) where
  behind : ((l : List Defined) → segments_from path next ≡ Some l → object_of (class c ∷ l) ≡ no_object) → ObjectAt path at None
  behind = first_at path at (λ l. object_of l ≡ no_object) (class c) next first

  no-second : (x : Step) → segment_at path next ≡ x → instance_in x ≡ None → ObjectAt path at None
  no-second (step port n) e z = behind (no_instance_at path next c port n e refl)
  no-second (step (class x) n) e z = behind (no_instance_at path next c (class x) n e refl)
  no-second (step (instance x) n) e z = clash (cc z)
  no-second (step (element x) n) e z = behind (no_instance_at path next c (element x) n e refl)
  no-second (step (attribute x) n) e z = behind (no_instance_at path next c (attribute x) n e refl)
  no-second (step (symbol name) n) e z = behind (no_instance_at path next c (symbol name) n e refl)
  no-second cut e z = behind (none_at path next (λ l. object_of (class c ∷ l) ≡ no_object) e refl)

  pub object-alone : instance_in (segment_at path next) ≡ None → ObjectAt path at None
  object-alone z = no-second (segment_at path next) refl z

  found_by : (i end : ℕ) (m : Option (List Defined)) → segments_from path end ≡ m → is_some (before (class c) (before (instance i) m)) ≡ true
      → segments_from path at ≡ before (class c) (before (instance i) m) → ObjectFound path at (record { class = c; instance = i; next = end })
  found_by i end None e s g = clash (cc s)
  found_by i end (Some l) e s g = record { rest = l; is = g; rest_is = e }

  second-is : (i n : ℕ) (x : Step) → instance_in x ≡ Some (i, n) → x ≡ step (instance i) n
  second-is i n (step port k) z = clash (cc z)
  second-is i n (step (class x) k) z = clash (cc z)
  second-is i n (step (instance x) k) z = let p : (x, k) ≡ (i, n) = cc z in ap (λ (q : ℕ × ℕ). step (instance q.0) q.1) p
  second-is i n (step (element x) k) z = clash (cc z)
  second-is i n (step (attribute x) k) z = clash (cc z)
  second-is i n (step (symbol name) k) z = clash (cc z)
  second-is i n cut z = clash (cc z)

  pub object-second : is_some (segments_from path at) ≡ true → (i n : ℕ) → instance_in (segment_at path next) ≡ Some (i, n)
      → ObjectFound path at (record { class = c; instance = i; next = n })
  object-second d i n z =
      let e = second-is i n (segment_at path next) z in
      let g = segments_step path at (class c) next first in
      let h = segments_step path next (instance i) n e in
      let both : segments_from path at ≡ before (class c) (before (instance i) (segments_from path n)) = rw h at g in
      found_by i n (segments_from path n) refl (rw both at d) both

-- by the segment that stands there
module _ (path : List ℕ) (at : ℕ) where
  pub object-cut : segment_at path at ≡ cut → ObjectAt path at None
  object-cut e = none_at path at (λ l. object_of l ≡ no_object) e refl

  pub object-other : (s : Segment) (next : ℕ) → step (segment_of s) next ≡ segment_at path at → ((x : ℕ) → s ≡ Class x → ⊥) → ObjectAt path at None
  object-other Port next e f = no_class_at path at port next (sym e) refl
  object-other (Class x) next e f = absurd (f x refl)
  object-other (Instance x) next e f = no_class_at path at (instance x) next (sym e) refl
  object-other (Element x) next e f = no_class_at path at (element x) next (sym e) refl
  object-other (Attribute x) next e f = no_class_at path at (attribute x) next (sym e) refl
  object-other (Symbol x) next e f = no_class_at path at (symbol x.now) next (sym e) refl
