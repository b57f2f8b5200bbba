-- Every reply of the dispatcher has four bytes at least, one of document 01's statuses, and at most max(8, limit) bytes.
-- Assumes nothing.
use mathlib.Core.Path.{◌≡◌, refl}
use mathlib.Core.Bool.{Bool, true, false, not}
use mathlib.Core.List.{List, [], ◌∷◌}
use Rattle.std.specs.Prelude.{Option, None, Some}
use Prim.Native.Nat.{ℕ, suc, ◌+◌, ◌-◌, ◌*◌, ◌≤◌, min}
use native.Mathlib.Omega.{arith}
use lib.Dec.{ltb, leb, eqb}
use lib.ListN.{length, take, drop, get_or, length-append, length-take}
use borrow.Author.Tests.{leb-true}
use Rattle.laws.specs.Pick.{both, either, is_empty, is_some}
use Rattle.laws.specs.Tests.{every, some_of}
use Rattle.laws.proofs.Chain.{by_test, pick_all}
use Rattle.definition.specs.Bytes.{part, u16_at, u32_at, counted}
use Rattle.definition.specs.Reply.{Status, general, extended, code_of, reply, fail, Answer, answered, room}
use Rattle.definition.specs.Segment.{Segment, name_of}
use Rattle.definition.specs.Request.{Request, malformed, request, request_of, Object, object, no_object, object_of, is_tag_path, symbol_instance}
use Rattle.definition.specs.Tables.{Tables, Flags, Row, template_start, template_length, structure_at, members_of, is_local, no_bit, takes_instances, takes_envelopes}
use Rattle.definition.specs.Types.{BOOL, is_structure, structure_of, size_in, type_header}
use Rattle.definition.specs.Lookup.{marked, structure_with_template, program_named, tag_named, tag_with_id, other_with_id, member_named}
use Rattle.definition.specs.Names.{is_program_name, after_program}
use Rattle.definition.specs.Resolve.{Target, Resolved, found, turned, Move, indexes, member, stray, moves, all_below, index, member_of, member_found, visible_member, walk, move_to, and_then, from_tag, by_instance, by_name, in_scope, in_program, scoped_by, resolve, whole_tag}
use Rattle.definition.specs.Access.{is_denied, permitted, tag_target}
use Rattle.definition.specs.Fragment.{space, status_of, fragment_reply}
use Rattle.definition.specs.Read.{Asked, granted, not_granted, selection, ask, send_from, send, selected_bytes, read_at, ReadFields, fields, short, read_fields, read_by, read_reply}
use Rattle.definition.specs.Write.{Stored, store, no_store, store_answer, Fields, fields_size, fields_of, write_stored, write_bit, type_matches, write_value, write_part}
use Rattle.definition.specs.Masked.{takes_mask, masked_stored}
use Rattle.definition.specs.Template.{send_template, template_reply}
use Rattle.definition.specs.Attributes.{list_reply, structure_list, structure_attributes, symbol_attributes}
use Rattle.definition.specs.Page.{Entry, bytes_of, fitting, first_unfit, page_reply}
use Rattle.definition.specs.Symbols.{Start, is_listed, page_start, page_of, page_from, list_symbols}
use Rattle.definition.specs.Envelope.{Replies, envelope_reply, close_envelope, answer_parts, envelope, parts_of, Dispatcher}
use Rattle.definition.specs.Answer.{capped, read_template, is_read, is_write, is_tag_service, is_router, on_target, tag_service, otherwise, by_service, by_object, plain, part_dispatch, any_request, answer}
use Rattle.definition.specs.Promises.{is_status}
use Rattle.definition.proofs.Cut.{size_fits}

-- ---- a reply that has a status, and one that also fits

pub record Headed (r : List ℕ) : Type 0 where
  pub long : 4 ≤ length r
  pub status : is_status (get_or r 2 0) ≡ true

pub record Proper (limit : ℕ) (r : List ℕ) : Type 0 where
  pub headed : Headed r
  pub fits : length r ≤ room limit

abbrev Known : Status → Type 0
Known s = is_status (code_of s) ≡ true

-- a status that turns a request away: neither 0x00 nor 0x06
abbrev pub is_done : ℕ → Bool
is_done code = either (eqb code 0x00) (eqb code 0x06)

abbrev pub Refuses : Status → Type 0
Refuses s = Known s × (is_done (code_of s) ≡ false)

headed_reply : (service : ℕ) (s : Status) (body : List ℕ) → Known s → Headed (reply service s body)
unfolding reply
headed_reply service (general code) body k = record { long = omega arith; status = k }
headed_reply service (extended code word) body k = record { long = omega arith; status = k }

-- without data a reply has at most 6 bytes
proper_fail : (limit service : ℕ) (s : Status) → Known s → Proper limit (fail service s)
unfolding reply
proper_fail limit service (general code) k = record { headed = headed_reply service (general code) [] k; fits = omega arith }
proper_fail limit service (extended code word) k = record { headed = headed_reply service (extended code word) [] k; fits = omega arith }

proper_reply : (limit service code : ℕ) (body : List ℕ) → is_status code ≡ true → 4 + length body ≤ room limit
    → Proper limit (reply service (general code) body)
unfolding reply
proper_reply limit service code body k h = record { headed = headed_reply service (general code) body k; fits = omega arith }

-- ---- reads

status_known : (due s : ℕ) → is_status (status_of due s) ≡ true
unfolding status_of is_status some_of
status_known due s = pick_all (λ c. is_status c ≡ true) (leb due s) refl refl

pub header-short : (structures : List Row) (type : ℕ) → length (type_header structures type) ≤ 4
unfolding type_header
header-short structures type = by_test (is_structure type) (λ e. rw e (omega arith)) (λ e. rw e (omega arith))

proper_fragment : (limit service : ℕ) (header chunk : List ℕ) → length header ≤ 4 → Proper limit (fragment_reply service header chunk limit)
unfolding fragment_reply
proper_fragment limit service header chunk h =
    let s = space (length header) limit in
    proper_reply limit service _ _ (status_known (length chunk) s) (simp (length-append, length-take) (omega (arith, size_fits (length chunk) s)))

abbrev pub AskedWell : Asked → Type 0
AskedWell (granted s) = length s.header ≤ 4
AskedWell (not_granted status) = Refuses status

pub ask_well : (structures : List Row) (g : Target) (elements : ℕ) → AskedWell (ask structures g elements)
unfolding ask selection is_status some_of
ask_well structures g elements =
    let h = header-short structures g.type in
    pick_all AskedWell (eqb g.bit 8)
    (pick_all AskedWell (eqb elements 0) (refl, refl) (pick_all AskedWell (ltb g.count elements) (refl, refl) h))
    (pick_all AskedWell (eqb elements 1) h (refl, refl))

proper_send : (limit service : ℕ) (a : Asked) (memory : List ℕ) (offset : ℕ) → AskedWell a → Proper limit (send service a memory offset limit)
unfolding send_from is_status some_of
proper_send limit service (granted s) memory offset h =
    pick_all (Proper limit) (leb (length (selected_bytes s memory)) offset) (proper_fail limit service _ refl) (proper_fragment limit service _ _ h)
proper_send limit service (not_granted status) memory offset k = proper_fail limit service status k.0

proper_read : (structures : List Row) (memory : List ℕ) (service : ℕ) (g : Target) (wanted : ReadFields) (limit : ℕ)
    → Proper limit (read_by structures memory service g wanted limit)
unfolding read_at is_status some_of
proper_read structures memory service g (fields elements offset) limit =
    proper_send limit service (ask structures g elements) memory offset (ask_well structures g elements)
proper_read structures memory service g short limit = proper_fail limit service _ refl

-- ---- writes

abbrev StoresWell : Stored → Type 0
StoresWell (store at bytes) = Unit {0}
StoresWell (no_store status) = Known status

masked_well : (memory : List ℕ) (g : Target) (body : List ℕ) → StoresWell (masked_stored memory g body)
unfolding masked_stored is_status some_of
masked_well memory g body =
    let need = 2 + 2 * u16_at body 0 in
    pick_all StoresWell (ltb (length body) need) refl
    (pick_all StoresWell (ltb need (length body)) refl (pick_all StoresWell (takes_mask g (u16_at body 0)) tt refl))

bit_well : (memory : List ℕ) (g : Target) (w : Fields) → StoresWell (write_bit memory g w)
unfolding write_bit is_status some_of
bit_well memory g w =
    pick_all StoresWell (eqb w.type BOOL)
    (pick_all StoresWell (eqb w.elements 1)
    (pick_all StoresWell (ltb (length w.value) 1) refl (pick_all StoresWell (ltb 1 (length w.value)) refl tt)) refl) refl

part_well : (service : ℕ) (g : Target) (w : Fields) (total : ℕ) → StoresWell (write_part service g w total)
unfolding write_part is_status some_of
part_well service g w total =
    pick_all StoresWell (eqb service 0x53)
    (pick_all StoresWell (leb total w.offset) refl (pick_all StoresWell (ltb total (w.offset + length w.value)) refl tt))
    (pick_all StoresWell (ltb (length w.value) total) refl (pick_all StoresWell (ltb total (length w.value)) refl tt))

value_well : (structures : List Row) (service : ℕ) (g : Target) (w : Fields) → StoresWell (write_value structures service g w)
unfolding write_value is_status some_of
value_well structures service g w =
    pick_all StoresWell (type_matches structures g w)
    (pick_all StoresWell (eqb w.elements 0) refl
    (pick_all StoresWell (ltb g.count w.elements) refl (part_well service g w (w.elements * size_in structures g.type)))) refl

write_well : (structures : List Row) (memory : List ℕ) (service : ℕ) (g : Target) (body : List ℕ) → StoresWell (write_stored structures memory service g body)
unfolding write_stored is_status some_of
write_well structures memory service g body =
    let w = fields_of service body in
    pick_all StoresWell (ltb (length body) (fields_size service body)) refl
    (pick_all StoresWell (eqb g.bit no_bit) (value_well structures service g w) (bit_well memory g w))

proper_store : (limit service : ℕ) (s : Stored) (memory : List ℕ) → StoresWell s → Proper limit (store_answer service s memory).reply
unfolding is_status some_of
proper_store limit service (store at bytes) memory w = proper_fail limit service (general 0) refl
proper_store limit service (no_store status) memory w = proper_fail limit service status w

-- ---- a path's status

abbrev pub TurnsWell : Resolved → Type 0
TurnsWell (found g) = Unit {0}
TurnsWell (turned status) = Refuses status

then_well : (r : Resolved) (next : Target → Resolved) → TurnsWell r → ((g : Target) → TurnsWell (next g)) → TurnsWell (and_then r next)
then_well (found g) next w n = n g
then_well (turned status) next w n = w

member_well : (t : Tables) (f : Flags) (g : Target) (i : Option ℕ) → TurnsWell (member_found t f g i)
unfolding visible_member is_status some_of
member_well t f g None = (refl, refl)
member_well t f g (Some i) =
    pick_all TurnsWell (both (marked (is_local (get_or (members_of t (structure_of t g.type)) i []))) f.aoi_locals_refused) (refl, refl) tt

move_well : (t : Tables) (f : Flags) (m : Move) (g : Target) → TurnsWell (move_to t f m g)
unfolding index member_of is_status some_of
move_well t f (indexes es) g =
    pick_all TurnsWell (is_empty g.lengths) (refl, refl)
    (pick_all TurnsWell (eqb (length es) (length g.lengths)) (pick_all TurnsWell (all_below es g.lengths) tt (refl, refl)) (refl, refl))
move_well t f (member name) g =
    pick_all TurnsWell (both (is_structure g.type) (both (is_empty g.lengths) (eqb g.bit no_bit)))
    (member_well t f g (member_named t (structure_of t g.type) name)) (refl, refl)
move_well t f stray g = (refl, refl)

walk_well : (t : Tables) (f : Flags) (ms : List Move) (g : Target) → TurnsWell (walk t f ms g)
unfolding walk
walk_well t f [] g = tt
walk_well t f (m ∷ rest) g = then_well (move_to t f m g) (walk t f rest) (move_well t f m g) (walk_well t f rest)

from_well : (t : Tables) (f : Flags) (unknown : Status) (i : Option ℕ) (rest : List Segment) → Refuses unknown → TurnsWell (from_tag t f unknown i rest)
from_well t f unknown None rest k = k
from_well t f unknown (Some i) rest k = walk_well t f (moves rest) (whole_tag t i)

instance_well : (t : Tables) (f : Flags) (scope : ℕ) (id : Option ℕ) (rest : List Segment) → TurnsWell (by_instance t f scope id rest)
unfolding is_status some_of
instance_well t f scope None rest = (refl, refl)
instance_well t f scope (Some id) rest = pick_all TurnsWell (takes_instances f) (from_well t f _ (tag_with_id t scope id) rest (refl, refl)) (refl, refl)

name_well : (t : Tables) (f : Flags) (scope : ℕ) (name : Option (List ℕ)) (s : Segment) (rest : List Segment) → TurnsWell (by_name t f scope name s rest)
unfolding is_status some_of
name_well t f scope None s rest = instance_well t f scope (symbol_instance (object_of (s ∷ rest))) (drop 1 rest)
name_well t f scope (Some name) s rest = from_well t f _ (tag_named t scope name) rest (refl, refl)

scope_well : (t : Tables) (f : Flags) (scope : ℕ) (path : List Segment) → TurnsWell (in_scope t f scope path)
unfolding in_scope is_status some_of
scope_well t f scope [] = (refl, refl)
scope_well t f scope (s ∷ rest) = name_well t f scope (name_of s) s rest

program_well : (t : Tables) (f : Flags) (k : Option ℕ) (rest : List Segment) → TurnsWell (in_program t f k rest)
unfolding is_status some_of
program_well t f None rest = (refl, refl)
program_well t f (Some k) rest = scope_well t f (suc k) rest

scoped_well : (t : Tables) (f : Flags) (name : Option (List ℕ)) (s : Segment) (rest : List Segment) → TurnsWell (scoped_by t f name s rest)
scoped_well t f None s rest = scope_well t f 0 (s ∷ rest)
scoped_well t f (Some name) s rest =
    pick_all TurnsWell (both (is_program_name name) (not (is_empty rest))) (program_well t f (program_named t (after_program name)) rest)
    (scope_well t f 0 (s ∷ rest))

resolve_well : (t : Tables) (f : Flags) (path : List Segment) → TurnsWell (resolve t f path)
unfolding resolve is_status some_of
resolve_well t f [] = (refl, refl)
resolve_well t f (s ∷ rest) = scoped_well t f (name_of s) s rest

pub target_well : (t : Tables) (f : Flags) (writes : Bool) (path : List Segment) → TurnsWell (tag_target t f writes path)
unfolding tag_target permitted is_status some_of
target_well t f writes path = then_well (resolve t f path) (permitted t f writes) (resolve_well t f path)
    (λ g. pick_all TurnsWell (is_denied t f writes g) (refl, refl) tt)

-- ---- templates, attribute lists, pages

part_short : (s : List ℕ) (start n : ℕ) → length (part s start n) ≤ n
part_short s start n = simp length-take (omega arith)

proper_send_template : (templates : List ℕ) (r : Row) (service offset due limit : ℕ) → Proper limit (send_template templates r service offset due limit)
unfolding send_template is_status some_of
proper_send_template templates r service offset due limit =
    let from = template_start r + offset in
    by_test (leb due (limit - 4))
    (λ e. rw e (proper_reply limit service _ _ refl (omega (arith, leb-true due (limit - 4) e, part_short templates from due))))
    (λ e. rw e (pick_all (Proper limit) (eqb (limit - 4) 0) (proper_fail limit service _ refl)
    (proper_reply limit service _ _ refl (omega (arith, part_short templates from (limit - 4))))))

proper_template : (templates : List ℕ) (r : Row) (service : ℕ) (body : List ℕ) (limit : ℕ) → Proper limit (template_reply templates r service body limit)
unfolding template_reply is_status some_of
proper_template templates r service body limit =
    let offset = u32_at body 0 in
    let due = min (u16_at body 4) (template_length r - offset) in
    pick_all (Proper limit) (ltb (length body) 6) (proper_fail limit service _ refl)
    (pick_all (Proper limit) (ltb (template_length r) offset) (proper_fail limit service _ refl) (proper_send_template templates r service offset due limit))

proper_read_template : (t : Tables) (service : ℕ) (i : Option ℕ) (body : List ℕ) (limit : ℕ) → Proper limit (read_template t service i body limit)
unfolding is_status some_of
proper_read_template t service None body limit = proper_fail limit service _ refl
proper_read_template t service (Some i) body limit = proper_template t.templates (structure_at t i) service body limit

headed_list : (service : ℕ) (value : ℕ → Option (List ℕ)) (list : Option (List ℕ)) → Headed (list_reply service value list)
unfolding is_status some_of
headed_list service value None = headed_reply service _ _ refl
headed_list service value (Some list) = headed_reply service _ _ refl

headed_structure : (structures : List Row) (service : ℕ) (i : Option ℕ) (body : List ℕ) → Headed (structure_list structures service i body)
unfolding is_status some_of
headed_structure structures service None body = headed_reply service _ _ refl
headed_structure structures service (Some i) body = headed_list service _ (counted body)

-- item 20 caps what it is put around
proper_capped : (service limit : ℕ) (r : List ℕ) → Headed r → Proper limit (capped service limit r)
unfolding capped is_status some_of
proper_capped service limit r h =
    by_test (leb (length r) limit) (λ e. rw e (record { headed = h; fits = omega (arith, leb-true (length r) limit e) }))
    (λ e. rw e (proper_fail limit service _ refl))

pub fitting-fits : (space : ℕ) (es : List Entry) → length (bytes_of (take (fitting space es) es)) ≤ space
unfolding fitting bytes_of
fitting-fits space [] = omega arith
fitting-fits space (e ∷ es) =
    by_test (leb (length e.bytes) space)
    (λ q. rw q (simp length-append (omega (arith, leb-true (length e.bytes) space q, fitting-fits (space - length e.bytes) es))))
    (λ q. rw q (omega arith))

proper_page : (service : ℕ) (due : List Entry) (limit : ℕ) → Proper limit (page_reply service due limit)
unfolding page_reply is_status some_of
proper_page service due limit =
    pick_all (Proper limit) (first_unfit (limit - 4) due) (proper_fail limit service _ refl)
    (proper_reply limit service _ _ (pick_all (λ c. is_status c ≡ true) (eqb (fitting (limit - 4) due) (length due)) refl refl)
    (omega (arith, fitting-fits (limit - 4) due)))

proper_page_of : (t : Tables) (service : ℕ) (s : Start) (list : Option (List ℕ)) (limit : ℕ) → Proper limit (page_of t service s list limit)
unfolding is_status some_of
proper_page_of t service s None limit = proper_fail limit service _ refl
proper_page_of t service s (Some list) limit = pick_all (Proper limit) (every is_listed list) (proper_page service _ limit) (proper_fail limit service _ refl)

proper_page_from : (t : Tables) (service : ℕ) (s : Option Start) (body : List ℕ) (limit : ℕ) → Proper limit (page_from t service s body limit)
unfolding is_status some_of
proper_page_from t service None body limit = proper_fail limit service _ refl
proper_page_from t service (Some s) body limit = proper_page_of t service s (counted body) limit

-- ---- the dispatch

proper_target : (t : Tables) (memory : List ℕ) (service : ℕ) (r : Resolved) (body : List ℕ) (limit : ℕ) → TurnsWell r
    → Proper limit (on_target t memory service r body limit).reply
unfolding read_reply
proper_target t memory service (turned status) body limit w = proper_fail limit service status w.0
proper_target t memory service (found g) body limit w =
    pick_all (λ (a : Answer). Proper limit a.reply) (is_read service) (proper_read t.structures memory service g (read_fields service body) limit)
    (pick_all (λ (a : Answer). Proper limit a.reply) (eqb service 0x4E)
    (proper_store limit service (masked_stored memory g body) memory (masked_well memory g body))
    (proper_store limit service (write_stored t.structures memory service g body) memory (write_well t.structures memory service g body)))

headed_otherwise : (service : ℕ) (o : Object) → Headed (otherwise service o)
unfolding is_status some_of
headed_otherwise service no_object = headed_reply service _ _ refl
headed_otherwise service (object c i) = headed_reply service _ _ (pick_all Known (either (eqb c 0x02) (eqb c 0x6C)) refl refl)

-- what holds of each reply that leaves the memory, and of a tag service's answer, holds of every answer to a request that is no envelope
module _ (P : Answer → Type 0) (t : Tables) (f : Flags) (memory : List ℕ) (service : ℕ) (path : List Segment) (body : List ℕ) (limit : ℕ)
    (still : (r : List ℕ) → Proper limit r → P (answered r memory)) (tag : P (tag_service t f memory service path body limit)) where
  service-all : P (by_service t f memory service path body limit)
  unfolding by_service list_symbols
  service-all =
      pick_all P (eqb service 0x55) (still _ (proper_page_from t service (page_start t path) body limit))
      (pick_all P (both (is_tag_service service) (is_tag_path path)) tag (still _ (proper_capped service limit _ (headed_otherwise service (object_of path)))))

  object-all : (o : Object) → P (by_object t f memory service o path body limit)
  unfolding symbol_attributes structure_attributes is_status some_of
  object-all no_object = service-all
  object-all (object c i) =
      pick_all P (both (eqb c 0x6B) (both (eqb service 0x03) (not f.micro800)))
      (still _ (proper_capped service limit _ (pick_all Headed (either (is_some (other_with_id t 0 i)) (is_some (tag_with_id t 0 i)))
      (headed_list service _ (counted body)) (headed_reply service _ _ refl))))
      (pick_all P (both (eqb c 0x6C) (eqb service 0x03))
      (still _ (proper_capped service limit _ (headed_structure t.structures service (structure_with_template t i) body)))
      (pick_all P (both (eqb c 0x6C) (eqb service 0x4C))
      (still _ (proper_read_template t service (structure_with_template t i) body limit)) service-all))

  pub plain-all : P (plain t f memory service path body limit)
  unfolding plain
  plain-all = object-all (object_of path)

proper_plain : (t : Tables) (f : Flags) (memory : List ℕ) (service : ℕ) (path : List Segment) (body : List ℕ) (limit : ℕ)
    → Proper limit (plain t f memory service path body limit).reply
unfolding tag_service
proper_plain t f memory service path body limit =
    plain-all (λ (a : Answer). Proper limit a.reply) t f memory service path body limit (λ r p. p)
    (proper_target t memory service (tag_target t f (is_write service) path) body limit (target_well t f (is_write service) path))

proper_close : (limit : ℕ) (rs : Replies) → Proper limit (close_envelope limit rs).reply
unfolding close_envelope envelope_reply is_status some_of
proper_close limit rs =
    by_test (leb (length (envelope_reply rs.replies)) limit)
    (λ e. rw e (record {
      headed = headed_reply 0x0A _ _
          (pick_all Known (every (λ r. eqb (get_or r 2 0) 0) rs.replies) refl refl);
      fits = omega (
        arith,
        leb-true (length (envelope_reply rs.replies)) limit e,
      );
    }))
    (λ e. rw e (proper_fail limit 0x0A _ refl))

proper_parts : (d : Dispatcher) (memory : List ℕ) (parts : Option (List (List ℕ))) (limit : ℕ) → Proper limit (answer_parts d memory parts limit).reply
unfolding is_status some_of
proper_parts d memory None limit = proper_fail limit 0x0A _ refl
proper_parts d memory (Some parts) limit = proper_close limit _

proper_request : (t : Tables) (f : Flags) (memory message : List ℕ) (q : Request) (limit : ℕ) → Proper limit (any_request t f memory message q limit).reply
unfolding envelope is_status some_of
proper_request t f memory message malformed limit = proper_fail limit (get_or message 0 0) _ refl
proper_request t f memory message (request service path body) limit =
    pick_all (λ (a : Answer). Proper limit a.reply) (both (eqb service 0x0A) (is_router (object_of path)))
    (pick_all (λ (a : Answer). Proper limit a.reply) (takes_envelopes f) (proper_parts (part_dispatch t f) memory (parts_of body) limit)
    (proper_fail limit 0x0A _ refl))
    (proper_plain t f memory service path body limit)

pub proper_answer : (t : Tables) (f : Flags) (memory message : List ℕ) (limit : ℕ) → Proper limit (answer t f memory message limit).reply
unfolding answer
proper_answer t f memory message limit = proper_request t f memory message (request_of message) limit
