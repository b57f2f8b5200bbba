-- Document 01, "Dispatch and what turns a request away", items 5 to 20.
-- All of it is document 01's alone: which service is tried first, and item 20. The papers define the services.
--
--   item     of what                          tried in       answered by
--   5        no path that decodes             any_request     here; `request_of` in Request
--   6, 7, 8  envelopes                        any_request     `envelope` in Envelope: 6 `envelope`, 7 `parts_of`, 8 `close_envelope`
--   9, 11    attributes of a symbol           by_object       `symbol_attributes` in Attributes
--   10, 11   attributes of a template         by_object       `structure_attributes` in Attributes
--   10, 12   a template read                  by_object       `read_template`; `template_reply` in Template
--   13       a page of symbols                by_service      `list_symbols` in Symbols
--   14, 15   a tag service: target, access    by_service      `tag_service`; `resolve` in Resolve, `tag_target` in Access
--   16       a read                           on_target       `read_reply` in Read
--   17       a write                          on_target       `write_stored` in Write
--   18       a masked write                   on_target       `masked_stored` in Masked
--   19       what is left                     by_service      `otherwise`
--   20       a reply that exceeds the limit   as named       `capped`
--
-- A declaration sees only what stands above it, so the items are tried from the end of this file upwards: `any_request`, `by_object`, `by_service`,
-- each passing on what is none of its own.
use Rattle.std.specs.Prelude.{Bool, false, not, List, ℕ, leb, eqb, length, get_or}
use Rattle.std.specs.Prelude.{Option, None, Some}
use Rattle.laws.specs.Pick.{pick, ◌&◌, either}
use Rattle.definition.specs.Reply.{Answer, answered, fail, path_error, path_unknown, not_supported, too_large}
use Rattle.definition.specs.Segment.{Segment}
use Rattle.definition.specs.Request.{Request, malformed, request, request_of, Object, object, no_object, object_of, is_tag_path}
use Rattle.definition.specs.Tables.{Tables, Flags, structure_at}
use Rattle.definition.specs.Lookup.{structure_with_template}
use Rattle.definition.specs.Resolve.{Resolved, found, turned}
use Rattle.definition.specs.Access.{tag_target}
use Rattle.definition.specs.Read.{read_reply}
use Rattle.definition.specs.Write.{store_answer, write_stored}
use Rattle.definition.specs.Masked.{masked_stored}
use Rattle.definition.specs.Template.{template_reply}
use Rattle.definition.specs.Attributes.{structure_attributes, symbol_attributes}
use Rattle.definition.specs.Symbols.{list_symbols}
use Rattle.definition.specs.Envelope.{envelope, envelope_service}

-- ---- item 20

-- 0x11 instead of a reply that exceeds the limit
unfoldable pub capped : (service limit : ℕ) → List ℕ → List ℕ
capped service limit r = pick (leb (length r) limit) r (fail service too_large)

-- ---- items 14 to 18: the tag services

abbrev pub is_read : (service : ℕ) → Bool
is_read service = either (eqb service 0x4C) (eqb service 0x52)

abbrev pub is_write : (service : ℕ) → Bool
is_write service = either (eqb service 0x4D) (either (eqb service 0x53) (eqb service 0x4E))

abbrev pub is_tag_service : (service : ℕ) → Bool
is_tag_service service = either (is_read service) (is_write service)

abbrev pub on_target : Tables → (memory : List ℕ) (service : ℕ) → Resolved → (body : List ℕ) (limit : ℕ) → Answer
on_target t memory service (turned status) body limit = answered (fail service status) memory
on_target t memory service (found g) body limit =
    pick (is_read service) (answered (read_reply t.structures memory service g body limit) memory)
    (pick (eqb service 0x4E) (store_answer service (masked_stored memory g body) memory)
    (store_answer service (write_stored t.structures memory service g body) memory))

unfoldable pub tag_service : Tables → Flags → (memory : List ℕ) (service : ℕ) (path : List Segment) (body : List ℕ) (limit : ℕ) → Answer
tag_service t f memory service path body limit = on_target t memory service (tag_target t f (is_write service) path) body limit

-- ---- item 19: 0x08 for class 0x02 or 0x6C with an instance, 0x05 for the rest

abbrev pub otherwise : (service : ℕ) → Object → List ℕ
otherwise service no_object = fail service path_unknown
otherwise service (object c i) = fail service (pick (either (eqb c 0x02) (eqb c 0x6C)) not_supported path_unknown)

-- ---- items 13 to 20, where no object's own service came first

unfoldable pub by_service : Tables → Flags → (memory : List ℕ) (service : ℕ) (path : List Segment) (body : List ℕ) (limit : ℕ) → Answer
by_service t f memory service path body limit =
    pick (eqb service 0x55) (answered (list_symbols t service path body limit) memory)
    (pick (is_tag_service service & is_tag_path path) (tag_service t f memory service path body limit)
    (answered (capped service limit (otherwise service (object_of path))) memory))

-- ---- items 9 to 12: the objects' own services

-- items 10 and 12: 0x05 for an unknown template ID
abbrev pub read_template : Tables → (service : ℕ) → Option ℕ → (body : List ℕ) (limit : ℕ) → List ℕ
read_template t service None body limit = fail service path_unknown
read_template t service (Some i) body limit = template_reply t.templates (structure_at t i) service body limit

abbrev pub by_object : Tables → Flags → (memory : List ℕ) (service : ℕ) → Object → (path : List Segment) (body : List ℕ) (limit : ℕ) → Answer
by_object t f memory service no_object path body limit = by_service t f memory service path body limit
by_object t f memory service (object c i) path body limit =
    pick (eqb c 0x6B & eqb service 0x03 & not f.micro800)
    (answered (capped service limit (symbol_attributes t service i body)) memory)
    (pick (eqb c 0x6C & eqb service 0x03)
    (answered (capped service limit (structure_attributes t.structures service i body)) memory)
    (pick (eqb c 0x6C & eqb service 0x4C)
    (answered (read_template t service (structure_with_template t i) body limit) memory)
    (by_service t f memory service path body limit)))

-- a request that is no envelope
unfoldable pub plain : Tables → Flags → (memory : List ℕ) (service : ℕ) (path : List Segment) (body : List ℕ) (limit : ℕ) → Answer
plain t f memory service path body limit = by_object t f memory service (object_of path) path body limit

-- ---- item 5

-- an envelope's part, or a message that is no envelope; the service of an empty one counts as 0
abbrev pub plain_request : Tables → Flags → (memory message : List ℕ) → Request → (limit : ℕ) → Answer
plain_request t f memory message malformed limit = answered (fail (get_or message 0 0) path_error) memory
plain_request t f memory message (request service path body) limit = plain t f memory service path body limit

-- the dispatcher of an envelope's parts
unfoldable pub part_dispatch : Tables → Flags → (memory message : List ℕ) (limit : ℕ) → Answer
part_dispatch t f memory message limit = plain_request t f memory message (request_of message) limit

-- ---- items 6 to 8: class 0x02 instance 1, 0x0A

abbrev pub is_router : Object → Bool
is_router no_object = false
is_router (object c i) = eqb c 0x02 & eqb i 1

abbrev pub any_request : Tables → Flags → (memory message : List ℕ) → Request → (limit : ℕ) → Answer
any_request t f memory message malformed limit = answered (fail (get_or message 0 0) path_error) memory
any_request t f memory message (request service path body) limit =
    pick (eqb service envelope_service & is_router (object_of path)) (envelope f (part_dispatch t f) memory body limit)
    (plain t f memory service path body limit)

unfoldable pub answer : Tables → Flags → (memory message : List ℕ) (limit : ℕ) → Answer
answer t f memory message limit = any_request t f memory message (request_of message) limit
