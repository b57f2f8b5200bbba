-- Continued reads and pages of the pallet bench, computed from the definition: lists that meet the premises of the theorems.
-- Assumes nothing.
use mathlib.Core.Path.{◌≡◌, refl, sym, subst}
use mathlib.Core.Logic.{inl, inr}
use mathlib.Core.List.{List, [], ◌∷◌, ◌++◌, map, append-nil}
use Prim.Native.Nat.{ℕ, zero, suc, ◌+◌, ◌≤◌, ◌<◌}
use native.Mathlib.Omega.{arith}
use lib.Dec.{lit≤}
use lib.ListN.{length, replicate, length-append}
use borrow.Author.Tests.{lt-ltb}
use Rattle.definition.specs.Fragment.{space, reply_count}
use Rattle.definition.specs.Pallet.{pallet, pallet_flags, pallet_names, pallet_tag_names, up_from, pallet_memory, pallet_start, count, rows, cell_run}
use Rattle.definition.specs.Computed.{compute}
use Rattle.definition.specs.Segment.{Segment, class, instance, symbol}
use Rattle.definition.specs.Tables.{Tables}
use Rattle.definition.specs.Read.{selected_bytes}
use Rattle.definition.specs.Entry.{Entered, refuse, entry}
use Rattle.definition.specs.Promises.{Grants}
use Rattle.continued.specs.Reads.{Sent, Turn, ours, other, Answered, joined, least_limit, heard, talk, Fair}
use Rattle.continued.specs.Pages.{FairPages}
use Rattle.continued.specs.Point3.{respond, hears, leaves, Event, message, changed, steps, Between, Asks, Reads, FairReads, ReadsDeliver, Pages}
use Rattle.continued.specs.Point3.{FairList, PagesDeliver, Encodes, read_request, open_request, page_request}
use Rattle.continued.proofs.Point3.{plain_at_0, continued_reads, continued_pages}
use Rattle.continued.proofs.Requests.{service_first, exact_asks, exact_opens}

-- all that has to compute: `unfolding computed` opens what this line names
unfoldable pub computed : Unit {0}
unfolding compute pallet pallet_flags pallet_memory pallet_start up_from respond read_request open_request page_request joined talk Fair FairPages
computed = tt

-- a message with a reply buffer of 110 bytes
abbrev pub sent : (request : List ℕ) (limit : ℕ) → Sent
sent request limit = record { request = request; limit = limit; buffer = replicate 110 0xEE }

-- the newest first
abbrev answers : Tables → (h : ℕ) → List (Turn Event) → List Answered
answers t h turns = talk (hears t pallet_flags) (leaves t pallet_flags) (steps t pallet_flags) h pallet_start [] turns

abbrev sizes : List Answered → List ℕ
sizes l = map (λ (a : Answered). length a.bytes) l

-- ---- reads: all of `Rows`

abbrev pub rows_path : List Segment
rows_path = symbol (0x52 ∷ 0x6F ∷ 0x77 ∷ 0x73 ∷ []) ∷ []

unfoldable pub granted-rows : Grants pallet pallet_flags rows_path 10
unfolding computed
granted-rows = record { tag_path = refl; selected = record { start = 4; size = 40; bit = 8; header = 0xC4 ∷ 0x00 ∷ [] }; granted_is = refl }

rows_encode : Encodes rows rows_path
unfolding computed
rows_encode = record { whole_words = refl; one_byte = lit≤ tt; decodes = refl }

-- the read from an offset, at a limit, with a reply buffer, and with bytes behind its fields
abbrev asking : (limit offset : ℕ) (buffer more : List ℕ) → Sent
asking limit offset buffer more = record { request = read_request rows 10 offset ++ more; limit = limit; buffer = buffer }

asks : (offset : ℕ) (more : List ℕ) → offset < 4294967296 → Asks rows_path 10 (read_request rows 10 offset ++ more) offset
asks offset more low = exact_asks rows rows_path 10 offset more rows_encode (lit≤ tt) low

-- writes 14 to `Count`
abbrev write_count : List ℕ
write_count = 0x4D ∷ 0x04 ∷ count ++ 0xC4 ∷ 0x00 ∷ 0x01 ∷ 0x00 ∷ 0x0E ∷ 0x00 ∷ 0x00 ∷ 0x00 ∷ []

abbrev in_envelope : List ℕ → List ℕ
in_envelope part = 0x0A ∷ 0x02 ∷ 0x20 ∷ 0x02 ∷ 0x24 ∷ 0x01 ∷ 0x01 ∷ 0x00 ∷ 0x04 ∷ 0x00 ∷ part

-- a limit too large and a buffer too short; an envelope that writes elsewhere, another 0x52 of the same path, a write of a wrong type to it; 16 bytes at
-- limit 22 by a read with two bytes behind its fields; somebody else changes `Count` and `Cell`; 3 bytes at limit 9, and the rest at 100; then `Rows` is zeroed
abbrev turns : List (Turn Event)
turns =
    ours (asking 65536 0 [] [])
    ∷ ours (asking 22 0 (replicate 21 7) [])
    ∷ other (message (sent (in_envelope write_count) 100))
    ∷ other (message (sent (read_request rows 10 8) 22))
    ∷ other (message (sent (0x4D ∷ 0x03 ∷ rows ++ 0xC3 ∷ 0x00 ∷ 0x01 ∷ 0x00 ∷ 9 ∷ 9 ∷ []) 100))
    ∷ ours (asking 22 0 (replicate 22 7) (0xAA ∷ 0xBB ∷ []))
    ∷ other (changed (pallet_memory (9 ∷ 9 ∷ 9 ∷ 9 ∷ []) (8 ∷ 8 ∷ 8 ∷ 8 ∷ [])))
    ∷ ours (asking 9 16 (replicate 30 7) [])
    ∷ ours (asking 65535 19 (replicate 12 7) [])
    ∷ ours (asking 100 19 (replicate 100 7) [])
    ∷ other (changed (replicate 48 0))
    ∷ []

rows_come : (sizes (answers pallet 2 turns) ≡ 21 ∷ 3 ∷ 16 ∷ []) × (joined (answers pallet 2 turns) ≡ up_from 1 40)
unfolding computed
rows_come = (refl, refl)

fair : FairReads pallet pallet_flags (Reads rows_path 10) granted-rows.selected pallet_start turns
unfolding computed granted-rows
fair = (
  asks 0 [] (lit≤ tt),
  omega arith,
  λ r. absurd r,
  (
    asks 0 [] (lit≤ tt),
    omega arith,
    λ r. absurd r,
    inr (
      refl,
      tt,
      inr (
        refl,
        tt,
        inr (
          refl,
          tt,
          (
            asks 0 (0xAA ∷ 0xBB ∷ []) (lit≤ tt),
            omega arith,
            λ r. lit≤ tt,
            inr (
              refl,
              refl,
              (
                asks 16 [] (lit≤ tt),
                omega arith,
                λ r. lit≤ tt,
                (
                  asks 19 [] (lit≤ tt),
                  omega arith,
                  λ r. absurd r,
                  (asks 19 [] (lit≤ tt), omega arith, λ r. lit≤ tt, inl tt),
                ),
              ),
            ),
          ),
        ),
      ),
    ),
  ),
)

-- before them a read that is too long for the entry: refusal 1
module _ (more : List ℕ) (many : 65536 ≤ length more) where
  abbrev long : Sent
  long = asking 22 0 (replicate 22 7) more

  too_long_lem : respond pallet pallet_flags long pallet_start ≡ refuse 1 (replicate 22 7) pallet_start
  unfolding respond entry
  too_long_lem = rw (lt-ltb 65535 (length (read_request rows 10 0 ++ more)) (omega (arith, length-append (read_request rows 10 0) more))) refl

  fair_long : FairReads pallet pallet_flags (Reads rows_path 10) granted-rows.selected pallet_start (ours long ∷ turns)
  unfolding Fair joined granted-rows
  fair_long = (
    asks 0 more (lit≤ tt),
    omega arith,
    λ r. lit≤ tt,
    subst
        (λ (e : Entered). Fair (hears pallet pallet_flags) (leaves pallet pallet_flags) (steps pallet pallet_flags) (Reads rows_path 10)
        (selected_bytes granted-rows.selected) Between (length granted-rows.selected.header) e.memory
        (heard (length granted-rows.selected.header) 22 e.outcome []) turns)
        (sym too_long_lem) fair,
  )

  -- so the theorem applies
  rows_delivered : ReadsDeliver pallet pallet_flags granted-rows.selected pallet_start (ours long ∷ turns)
  unfolding computed
  rows_delivered = continued_reads pallet pallet_flags rows_path 10 granted-rows pallet_start (ours long ∷ turns) refl fair_long

-- by the exact bytes, at limit 9
abbrev pub row : (limit offset : ℕ) → Turn Event
row limit offset = ours (sent (read_request rows 10 offset) limit)

pub row-asks : (offset : ℕ) → offset < 4294967296 → Asks rows_path 10 (read_request rows 10 offset) offset
row-asks offset low = rw (← append-nil (read_request rows 10 offset)) (asks offset [] low)

turns9 : (n offset : ℕ) → List (Turn Event)
turns9 zero offset = []
turns9 (suc n) offset = row 9 offset ∷ turns9 n (offset + 3)

rows9 : (length (answers pallet 2 (turns9 14 0)) ≡ 14) × (joined (answers pallet 2 (turns9 14 0)) ≡ up_from 1 40) × (reply_count 40 (space 2 9) ≡ 14)
unfolding computed turns9
rows9 = (refl, refl, refl)

-- ---- a 0x4C opens the read of `Rows`

abbrev pub opening : (limit : ℕ) → Turn Event
opening limit = ours (sent (open_request rows 10) limit)

pub opening_asks : Asks rows_path 10 (open_request rows 10) 0
opening_asks = rw (← append-nil (open_request rows 10)) (exact_opens rows rows_path 10 [] rows_encode (lit≤ tt))

-- 16 bytes by 0x4C and the rest by two 0x52, all at limit 22
abbrev opened : List (Turn Event)
opened = opening 22 ∷ row 22 16 ∷ row 22 32 ∷ []

opened_come : (sizes (answers pallet 2 opened) ≡ 8 ∷ 16 ∷ 16 ∷ []) × (joined (answers pallet 2 opened) ≡ up_from 1 40) × (reply_count 40 (space 2 22) ≡ 3)
unfolding computed
opened_come = (refl, refl, refl)

fair_opened : FairReads pallet pallet_flags (Reads rows_path 10) granted-rows.selected pallet_start opened
unfolding computed granted-rows
fair_opened = (
  opening_asks,
  omega arith,
  λ r. lit≤ tt,
  (row-asks 16 (lit≤ tt), omega arith, λ r. lit≤ tt, (row-asks 32 (lit≤ tt), omega arith, λ r. lit≤ tt, tt)),
)

opened_delivered : ReadsDeliver pallet pallet_flags granted-rows.selected pallet_start opened
unfolding computed
opened_delivered = continued_reads pallet pallet_flags rows_path 10 granted-rows pallet_start opened refl fair_opened

-- a 0x4C that the entry refuses for its buffer opens nothing, and a 0x52 at 0 takes its place; among them a 0x4C at limit 6, and one where 16 bytes are
-- there already, are no reads of ours
abbrev unheard : Sent
unheard = record { request = open_request rows 10; limit = 22; buffer = replicate 7 7 }

abbrev replaced : List (Turn Event)
replaced =
    ours unheard
    ∷ other (message (sent (open_request rows 10) 6))
    ∷ row 22 0
    ∷ other (message (sent (open_request rows 10) 22))
    ∷ row 22 16
    ∷ []

replaced_come : (respond pallet pallet_flags unheard pallet_start ≡ refuse 3 (replicate 7 7) pallet_start)
    × (sizes (answers pallet 2 replaced) ≡ 16 ∷ 16 ∷ [])
    × (joined (answers pallet 2 replaced) ≡ up_from 1 32)
unfolding computed
replaced_come = (refl, refl, refl)

fair_replaced : FairReads pallet pallet_flags (Reads rows_path 10) granted-rows.selected pallet_start replaced
unfolding computed granted-rows
fair_replaced = (
  opening_asks,
  omega arith,
  λ r. absurd r,
  inr (refl, tt, (row-asks 0 (lit≤ tt), omega arith, λ r. lit≤ tt, inr (refl, tt, (row-asks 16 (lit≤ tt), omega arith, λ r. lit≤ tt, tt)))),
)

replaced_delivered : ReadsDeliver pallet pallet_flags granted-rows.selected pallet_start replaced
unfolding computed
replaced_delivered = continued_reads pallet pallet_flags rows_path 10 granted-rows pallet_start replaced refl fair_replaced

-- the other lists among document 02's examples: the bytes that come, the newest first, and the bound at the smallest answered limit
abbrev comes : List (Turn Event) → List ℕ × ℕ
comes turns = let l = answers pallet 2 turns in (sizes l, reply_count 40 (space 2 (least_limit l)))

lists_come :
    (comes (opening 46 ∷ []) ≡ (40 ∷ [], 1))
    × (comes (opening 45 ∷ row 45 36 ∷ []) ≡ (4 ∷ 36 ∷ [], 2))
    × (comes (opening 30 ∷ row 22 24 ∷ []) ≡ (16 ∷ 24 ∷ [], 3))
    × (comes (opening 9 ∷ turns9 13 3) ≡ (1 ∷ replicate 13 3, 14))
    -- four bytes behind the count are no offset
    × (answers pallet 2 (ours (sent (open_request rows 10 ++ 16 ∷ 0 ∷ 0 ∷ 0 ∷ []) 22) ∷ []) ≡ answers pallet 2 (opening 22 ∷ []))
    -- at limit 6 nothing comes
    × (sizes (answers pallet 2 (opening 6 ∷ [])) ≡ 0 ∷ [])
unfolding computed turns9
lists_come = (refl, refl, refl, refl, refl, refl)

-- a second 0x4C is no read at 16
second_plain : Asks rows_path 10 (open_request rows 10) 16 → ⊥
unfolding open_request
second_plain a =
    omega (arith, plain_at_0 rows_path 10 (open_request rows 10) 16 a (sym (service_first (open_request rows 10) a.service rows_path a.body a.is)))

-- ---- the bit `Run` of `Cell`, by `Cell` and then by instance: one byte, before a write that turns it off

abbrev run_path : List Segment
run_path = symbol (0x43 ∷ 0x65 ∷ 0x6C ∷ 0x6C ∷ []) ∷ symbol (0x52 ∷ 0x75 ∷ 0x6E ∷ []) ∷ []

granted-run : Grants pallet pallet_flags run_path 1
unfolding computed
granted-run = record { tag_path = refl; selected = record { start = 44; size = 1; bit = 2; header = 0xC1 ∷ 0x00 ∷ [] }; granted_is = refl }

abbrev run_turns : List (Turn Event)
run_turns =
    ours (sent (read_request cell_run 1 0) 65536)
    ∷ other (message (sent write_count 100))
    ∷ ours (sent (read_request cell_run 1 0) 9)
    ∷ other (message (sent (0x4D ∷ 0x06 ∷ cell_run ++ 0xC1 ∷ 0x00 ∷ 0x01 ∷ 0x00 ∷ 0 ∷ []) 100))
    ∷ []

run_comes : answers pallet 2 run_turns ≡ record { limit = 9; status = 0; bytes = 1 ∷ [] } ∷ []
unfolding computed
run_comes = refl

run-asks : Asks run_path 1 (read_request cell_run 1 0) 0
unfolding computed
run-asks = record { service = 0x52; body = 1 ∷ 0 ∷ 0 ∷ 0 ∷ 0 ∷ 0 ∷ []; reads = refl; is = refl; fields_are = refl }

fair_run : FairReads pallet pallet_flags (Reads run_path 1) granted-run.selected pallet_start run_turns
unfolding computed granted-run
fair_run = (run-asks, omega arith, λ r. absurd r, inr (refl, tt, (run-asks, omega arith, λ r. lit≤ tt, inl tt)))

run_delivered : ReadsDeliver pallet pallet_flags granted-run.selected pallet_start run_turns
unfolding computed
run_delivered = continued_reads pallet pallet_flags run_path 1 granted-run pallet_start run_turns refl fair_run

-- ---- pages: the bench with a program `Run`, to whose scope `Rows` and `Cell` belong; names and types of these, one of them at limit 16

hall : Tables
unfolding pallet
hall = record {
  structures = pallet.structures;
  members = pallet.members;
  programs = (8 ∷ 3 ∷ []) ∷ [];
  tags =
      (0 ∷ 0 ∷ 5 ∷ 1 ∷ 0xC4 ∷ 0 ∷ 0 ∷ 0 ∷ 1 ∷ 0 ∷ 0 ∷ 0 ∷ [])
      ∷ (1 ∷ 5 ∷ 4 ∷ 2 ∷ 0xC4 ∷ 10 ∷ 0 ∷ 0 ∷ 10 ∷ 0 ∷ 0 ∷ 4 ∷ [])
      ∷ (1 ∷ 9 ∷ 4 ∷ 0xFFFFFFFF ∷ 0x100 ∷ 0 ∷ 0 ∷ 0 ∷ 1 ∷ 0 ∷ 0 ∷ 44 ∷ [])
      ∷ [];
  others = [];
  names = pallet_names;
  tag_names = pallet_tag_names;
  templates = pallet.templates;
}

-- `Program:run`, class 0x6B and a start ID
abbrev run_from : ℕ → List ℕ
run_from id =
    0x91 ∷ 0x0B ∷ 0x50 ∷ 0x72 ∷ 0x6F ∷ 0x67 ∷ 0x72 ∷ 0x61 ∷ 0x6D ∷ 0x3A ∷ 0x72 ∷ 0x75 ∷ 0x6E ∷ 0x00 ∷ 0x20 ∷ 0x6B ∷ 0x24 ∷ id ∷ []

abbrev page : (limit id : ℕ) (more : List ℕ) → Turn Event
page limit id more = ours (sent (page_request (run_from id) (1 ∷ 2 ∷ []) ++ more) limit)

abbrev pages : List (Turn Event)
pages = page 65536 0 [] ∷ page 16 0 (0xAA ∷ []) ∷ other (changed (replicate 48 3)) ∷ page 100 3 [] ∷ other (message (sent write_count 100)) ∷ []

pages_come : map (λ (a : Answered). a.bytes) (answers hall 0 pages)
    ≡ (0xFF ∷ 0xFF ∷ 0xFF ∷ 0xFF ∷ 0x04 ∷ 0x00 ∷ 0x43 ∷ 0x65 ∷ 0x6C ∷ 0x6C ∷ 0x00 ∷ 0x81 ∷ [])
    ∷ (0x02 ∷ 0x00 ∷ 0x00 ∷ 0x00 ∷ 0x04 ∷ 0x00 ∷ 0x52 ∷ 0x6F ∷ 0x77 ∷ 0x73 ∷ 0xC4 ∷ 0x20 ∷ [])
    ∷ []
unfolding computed hall
pages_come = refl

abbrev segments_from_id : ℕ → List Segment
segments_from_id id = symbol (0x50 ∷ 0x72 ∷ 0x6F ∷ 0x67 ∷ 0x72 ∷ 0x61 ∷ 0x6D ∷ 0x3A ∷ 0x72 ∷ 0x75 ∷ 0x6E ∷ []) ∷ class 0x6B ∷ instance id ∷ []

fair_pages : FairList hall pallet_flags (Pages hall 1 (1 ∷ 2 ∷ [])) 1 (1 ∷ 2 ∷ []) 0 pallet_start pages
unfolding computed hall
fair_pages = (
  record { path = segments_from_id 0; body = 2 ∷ 0 ∷ 1 ∷ 0 ∷ 2 ∷ 0 ∷ []; is = refl; starts = refl; list_is = refl },
  omega arith,
  λ r. absurd r,
  (
    record { path = segments_from_id 0; body = 2 ∷ 0 ∷ 1 ∷ 0 ∷ 2 ∷ 0 ∷ 0xAA ∷ []; is = refl; starts = refl; list_is = refl },
    omega arith,
    λ r. (lit≤ tt, (lit≤ tt, tt)),
    inr (
      refl,
      refl,
      (
        (0, lit≤ tt, refl, record { path = segments_from_id 3; body = 2 ∷ 0 ∷ 1 ∷ 0 ∷ 2 ∷ 0 ∷ []; is = refl; starts = refl; list_is = refl }),
        omega arith,
        λ r. (lit≤ tt, (lit≤ tt, tt)),
        inl tt,
      ),
    ),
  ),
)

pages_listed : PagesDeliver hall pallet_flags 1 (1 ∷ 2 ∷ []) 0 pallet_start pages
unfolding computed hall
pages_listed = continued_pages hall pallet_flags 1 (1 ∷ 2 ∷ []) 0 pallet_start pages refl refl fair_pages
