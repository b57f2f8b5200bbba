-- Document 01, items 9 to 11: attribute lists (0x03) of classes 0x6B and 0x6C.
-- CIP Volume 1, Appendix A (Get_Attribute_List), defines the lists; 1756-PM020 the attributes of the Template object (class 0x6C);
-- document 01 alone attribute 0x0D of class 0x6B, and status 0 with unknown numbers.
use Rattle.std.specs.Prelude.{List, [], ◌∷◌, ◌++◌, ℕ, ◌+◌, ◌/◌, eqb, length, get_or}
use Rattle.std.specs.Prelude.{Option, None, Some}
use Rattle.laws.specs.Pick.{pick, either, is_some}
use Rattle.definition.specs.Bytes.{le16, le32, counted}
use Rattle.definition.specs.Reply.{reply, fail, success, path_unknown, too_short}
use Rattle.definition.specs.Tables.{Tables, Row, handle, member_count, template_length, structure_size, other_name}
use Rattle.definition.specs.Lookup.{program_of, tag_with_id, other_with_id, template_in}

-- ---- the reply: the count, then for each number itself, 0x0000 and the value, or itself and 0x0014 if unknown

-- [CIP]
abbrev pub attribute_entry : (number : ℕ) → Option (List ℕ) → List ℕ
attribute_entry number None = le16 number ++ le16 0x0014
attribute_entry number (Some value) = le16 number ++ le16 0x0000 ++ value

-- [CIP]
unfoldable pub attribute_entries : (value : ℕ → Option (List ℕ)) → List ℕ → List ℕ
attribute_entries value [] = []
attribute_entries value (a ∷ rest) = attribute_entry a (value a) ++ attribute_entries value rest

-- [CIP]
abbrev pub list_reply : (service : ℕ) → (value : ℕ → Option (List ℕ)) → Option (List ℕ) → List ℕ
list_reply service value None = fail service too_short
list_reply service value (Some list) = reply service success (le16 (length list) ++ attribute_entries value list)

-- ---- class 0x6C: 1 handle, 2 member count, 4 (template length + 23) ÷ 4 rounded up, 5 size

-- [PM020]
unfoldable pub structure_attribute : Row → (number : ℕ) → Option (List ℕ)
structure_attribute r a =
    pick (eqb a 1) (Some (le16 (handle r)))
    (pick (eqb a 2) (Some (le16 (member_count r)))
    (pick (eqb a 4) (Some (le32 ((template_length r + 23 + 3) / 4)))
    (pick (eqb a 5) (Some (le32 (structure_size r))) None)))

-- of the structure that a template ID means; 0x05 for an unknown one [01]
abbrev pub structure_list : (structures : List Row) (service : ℕ) → Option ℕ → (body : List ℕ) → List ℕ
structure_list structures service None body = fail service path_unknown
structure_list structures service (Some i) body = list_reply service (structure_attribute (get_or structures i [])) (counted body)

-- [01]
unfoldable pub structure_attributes : (structures : List Row) (service id : ℕ) (body : List ℕ) → List ℕ
structure_attributes structures service id body = structure_list structures service (template_in structures id) body

-- ---- class 0x6B: 0x0D only, for an other symbol named as a known program: 03 20 68 25 00 and 0x5AD0 plus the program's position

-- [01]
abbrev pub program_reference : Option ℕ → (number : ℕ) → Option (List ℕ)
program_reference None a = None
program_reference (Some k) a = pick (eqb a 0x0D) (Some (0x03 ∷ 0x20 ∷ 0x68 ∷ 0x25 ∷ 0x00 ∷ le16 (0x5AD0 + k))) None

-- the program that the other symbol of this index is named as [01]
abbrev pub named_program : Tables → Option ℕ → Option ℕ
named_program t None = None
named_program t (Some i) = program_of t (other_name t.names (get_or t.others i []))

-- 0x05 for an ID not in the controller scope [01]
unfoldable pub symbol_attributes : Tables → (service id : ℕ) (body : List ℕ) → List ℕ
symbol_attributes t service id body =
    let other = other_with_id t 0 id in
    pick (either (is_some other) (is_some (tag_with_id t 0 id)))
    (list_reply service (program_reference (named_program t other)) (counted body)) (fail service path_unknown)
