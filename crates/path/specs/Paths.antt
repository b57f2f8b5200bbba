-- What the code's answers mean in the definition's terms.
use Rattle.std.specs.Prelude.{◌≡◌, ◌≤◌, ◌+◌, ◌*◌, Bool, true, false, List, ◌∷◌, ℕ, length, get_or, Option, None, Some, eqb, leb}
use Rattle.std.specs.Borrow.{Bor}
use Rattle.laws.specs.Pick.{pick, both, is_some}
use Rattle.definition.specs.Bytes.{part}
use Rattle.definition.specs.Segment.{Segment as Defined, port, class, instance, element, attribute, symbol, Step as DefinedStep, step, cut, within, logical_at, sized_at, segment_at, segments_from, segments}
use Rattle.definition.specs.Names.{is_program_name, after_program}
use Rattle.definition.specs.Request.{malformed, with_path, request_of, no_object, object_of, is_tag_path}
use Rattle.path.specs.declared.Segment.{Segment}
use Rattle.path.specs.declared.Segment.TheVariants.{Port, Class, Instance, Element, Attribute, Symbol}
use Rattle.path.specs.declared.Step.{Step}
use Rattle.path.specs.declared.Object.{Object}
use Rattle.path.specs.declared.request.Request.{Request}

abbrev pub segment_of : Segment → Defined
segment_of Port = port
segment_of (Class x) = class x
segment_of (Instance x) = instance x
segment_of (Element x) = element x
segment_of (Attribute x) = attribute x
segment_of (Symbol name) = symbol name.now

abbrev pub step_of : Option Step → DefinedStep
step_of None = cut
step_of (Some s) = step (segment_of s.segment) s.next

-- a symbol's name starts two bytes behind the segment's start and stands in the path
abbrev pub NameStands : List ℕ → ℕ → Segment → Type 0
NameStands path at Port = Unit {0}
NameStands path at (Class x) = Unit {0}
NameStands path at (Instance x) = Unit {0}
NameStands path at (Element x) = Unit {0}
NameStands path at (Attribute x) = Unit {0}
NameStands path at (Symbol name) = (name.now ≡ part path (at + 2) (length name.now)) × (at + 2 + length name.now ≤ length path)

abbrev pub NameInside : List ℕ → ℕ → Option Step → Type 0
NameInside path at None = Unit {0}
NameInside path at (Some s) = NameStands path at s.segment

pub record Decoded (path : List ℕ) (at : ℕ) (r : Option Step) : Type 0 where
  pub is : step_of r ≡ segment_at path at
  pub name_inside : NameInside path at r

-- ---- the pieces of a segment, each whatever segment is made of it

-- a value and the position behind it
abbrev pub value_step : (ℕ → Defined) → Option (ℕ × ℕ) → DefinedStep
value_step make None = cut
value_step make (Some v) = step (make v.0) v.1

abbrev pub ValueAt : List ℕ → (at f : ℕ) → Option (ℕ × ℕ) → Type 0
ValueAt path at f r = (make : ℕ → Defined) → value_step make r ≡ logical_at path at f make

-- a size, as many bytes and the position behind them and their pad
abbrev pub name_step : (List ℕ → Defined) → Option (Bor (List ℕ) × ℕ) → DefinedStep
name_step make None = cut
name_step make (Some v) = step (make v.0.now) v.1

abbrev pub NameAt : List ℕ → (at : ℕ) → Option (Bor (List ℕ) × ℕ) → Type 0
NameAt path at r = (make : List ℕ → Defined) → name_step make r ≡ sized_at path at make

-- the position behind a port's link
abbrev pub link_step : Option ℕ → DefinedStep
link_step None = cut
link_step (Some next) = step port next

abbrev pub link_end : List ℕ → (at : ℕ) → (sized : Bool) → DefinedStep
link_end path at sized = pick sized (sized_at path at (λ link. port)) (within path at 1 port)

abbrev pub LinkAt : List ℕ → (at : ℕ) → (sized : Bool) → Option ℕ → Type 0
LinkAt path at sized r = link_step r ≡ link_end path at sized

-- ---- requests

-- the request of a message, whose path decodes: as many words from the third byte on as the second one says
pub record Split (m : List ℕ) (r : Request) : Type 0 where
  pub is : request_of m ≡ with_path r.service (segments r.path.now) r.body.now
  pub path_is : r.path.now ≡ part m 2 (2 * get_or m 1 0)
  pub decodes : is_some (segments r.path.now) ≡ true

abbrev pub Splits : List ℕ → Option Request → Type 0
Splits m None = request_of m ≡ malformed
Splits m (Some r) = Split m r

-- ---- tag paths

abbrev pub tag_path_by : Option (List Defined) → Bool
tag_path_by None = false
tag_path_by (Some l) = is_tag_path l

unfoldable pub tag_path_from : List ℕ → ℕ → Bool
tag_path_from path at = tag_path_by (segments_from path at)

-- the number of segments left, which falls with each call of the test
abbrev pub left_of : Option (List Defined) → ℕ
left_of None = 0
left_of (Some l) = length l

unfoldable pub segments_left : List ℕ → ℕ → ℕ
segments_left path at = left_of (segments_from path at)

-- ---- class and instance

-- the instance that a step is, and where what follows it starts
abbrev pub instance_in : DefinedStep → Option (ℕ × ℕ)
instance_in cut = None
instance_in (step port next) = None
instance_in (step (class x) next) = None
instance_in (step (instance x) next) = Some (x, next)
instance_in (step (element x) next) = None
instance_in (step (attribute x) next) = None
instance_in (step (symbol name) next) = None

pub record ObjectFound (path : List ℕ) (at : ℕ) (o : Object) : Type 0 where
  pub rest : List Defined
  pub is : segments_from path at ≡ Some (class o.class ∷ (instance o.instance ∷ rest))
  pub rest_is : segments_from path o.next ≡ Some rest

abbrev pub ObjectAt : (path : List ℕ) (at : ℕ) → Option Object → Type 0
ObjectAt path at (Some o) = ObjectFound path at o
ObjectAt path at None = (l : List Defined) → segments_from path at ≡ Some l → object_of l ≡ no_object

-- ---- names

-- one of A to Z and the same letter in lower case
abbrev pub is_upper_of : (x y : ℕ) → Bool
is_upper_of x y = both (both (leb 0x41 x) (leb x 0x5A)) (eqb (x + 0x20) y)

abbrev pub AfterProgram : (name : List ℕ) → Option (Bor (List ℕ)) → Type 0
AfterProgram name None = is_program_name name ≡ false
AfterProgram name (Some rest) = (is_program_name name ≡ true) × (rest.now ≡ after_program name)
