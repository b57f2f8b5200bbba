-- Document 01, "Segment" and "Target": a message is service, path length in 16-bit words, path, data; class and instance are a path's first two
-- segments; program names and the tag path test.
-- CIP Volume 1, section 2-4 (message router request), defines the message; 1756-PM020 the program prefix; document 01 alone the tag path test.
use Rattle.std.specs.Prelude.{Bool, true, false, not, List, [], ◌∷◌, ℕ, ◌+◌, ◌*◌, ltb, eqb, length, get_or, drop}
use Rattle.std.specs.Prelude.{Option, None, Some}
use Rattle.laws.specs.Pick.{pick, both, is_empty, is_some}
use Rattle.definition.specs.Bytes.{part}
use Rattle.definition.specs.Names.{is_program_name}
use Rattle.definition.specs.Segment.{Segment, segments, class_of, instance_of, name_of}

-- item 5: fewer than two bytes, path cut short or invalid
pub data Request : Type 0 where
  malformed : Request
  request : (service : ℕ) (path : List Segment) (body : List ℕ) → Request

-- [CIP]
abbrev pub with_path : ℕ → Option (List Segment) → List ℕ → Request
with_path service None body = malformed
with_path service (Some path) body = request service path body

-- [CIP]
unfoldable pub request_of : List ℕ → Request
request_of m =
    let size = 2 * get_or m 1 0 in
    pick (ltb (length m) (2 + size)) malformed (with_path (get_or m 0 0) (segments (part m 2 size)) (drop (2 + size) m))

-- ---- class and instance

pub data Object : Type 0 where
  object : (c i : ℕ) → Object
  no_object : Object

-- [CIP]
abbrev pub object_by : Option ℕ → Option ℕ → Object
object_by None i = no_object
object_by (Some c) None = no_object
object_by (Some c) (Some i) = object c i

-- [CIP]
abbrev pub object_of : List Segment → Object
object_of [] = no_object
object_of (s ∷ []) = no_object
object_of (s ∷ (u ∷ rest)) = object_by (class_of s) (instance_of u)

-- class 0x6B and an instance [PM020]
abbrev pub symbol_instance : Object → Option ℕ
symbol_instance no_object = None
symbol_instance (object c i) = pick (eqb c 0x6B) (Some i) None

-- ---- a tag path: a symbol first, or class 0x6B and an instance; if a program name with something after it comes first, the same test is put to the rest

-- [01]
abbrev pub starts_tag : Option (List ℕ) → (rest : List Segment) (by_instance again : Bool) → Bool
starts_tag None rest by_instance again = by_instance
starts_tag (Some name) rest by_instance again = pick (both (is_program_name name) (not (is_empty rest))) again true

-- [01]
unfoldable pub is_tag_path : List Segment → Bool
is_tag_path [] = false
is_tag_path (s ∷ rest) = starts_tag (name_of s) rest (is_some (symbol_instance (object_of (s ∷ rest)))) (is_tag_path rest)
