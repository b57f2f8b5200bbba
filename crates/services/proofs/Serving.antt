-- A tag service's answer, from what the target's function left.
-- Assumes nothing.
use mathlib.Core.Path.{◌≡◌, refl, subst}
use mathlib.Core.Bool.{Bool, true, false}
use mathlib.Core.List.{List, []}
use Rattle.std.specs.Prelude.{Option, None, Some, Result, Ok, Err}
use mathlib.Core.Logic.{◌≢◌}
use Prim.Native.Nat.{ℕ}
use borrow.Author.Tests.{eq-eqb, ne_eqb}
use Rattle.laws.specs.Pick.{is_some}
use Rattle.definition.specs.Reply.{answered, fail, too_short}
use Rattle.definition.specs.Segment.{segments}
use Rattle.definition.specs.Tables.{Tables, Flags, Row}
use Rattle.definition.specs.Read.{read_at, read_fields, read_reply}
use Rattle.definition.specs.Write.{Stored, store_answer, write_stored}
use Rattle.definition.specs.Masked.{masked_stored}
use Rattle.definition.specs.Resolve.{turned}
use Rattle.definition.specs.Valid.{valid}
use Rattle.definition.specs.Access.{tag_target}
use Rattle.definition.specs.Answer.{is_read, is_write, tag_service}
use Rattle.cip.specs.Statuses.{status_of}
use Rattle.cip.specs.Writes.{Laid}
use Rattle.cip.specs.declared.Status.{Status}
use Rattle.model.specs.Tables.{target_of, Aimed}
use Rattle.model.specs.declared.Target.{Target}
use Rattle.resolve.specs.Answers.{Targets}
use Rattle.resolve.proofs.Answering.{found_aimed}
use Rattle.reads.specs.Reading.{fields_as}
use Rattle.reads.specs.declared.ReadFields.{ReadFields}
use Rattle.reads.proofs.Lengths.{read_any_lengths}
use Rattle.writes.specs.Storing.{Stores, status_said}
use Rattle.writes.proofs.Lengths.{write_any_lengths, masked_any_lengths}
use Rattle.services.specs.Answers.{Answers, OnPath}
use Rattle.services.specs.Services.{on_found}

-- a reply that leaves tag memory as it was
pub laid_answers : (limit : ℕ) (bytes old : List ℕ) (r : ℕ) (new memory : List ℕ) → Laid limit bytes old r new
    → Answers limit (answered bytes memory) old r new memory
laid_answers limit bytes old r new memory h = record { length_is = h.length_is; buffer_is = h.buffer_is; memory_is = refl }

-- a read by its fields, as the code has them
module _ (structures : List Row) (memory : List ℕ) (service : ℕ) (g : Target) (body : List ℕ) (limit : ℕ) (old : List ℕ) (r : ℕ) (new : List ℕ)
    (w : Option ReadFields) (decoded : fields_as w ≡ read_fields service body) where
  pub read_of : (f : ReadFields) → w ≡ Some f → Laid limit (read_at structures memory service (target_of g []) f.elements f.offset limit) old r new
      → Laid limit (read_reply structures memory service (target_of g []) body limit) old r new
  unfolding read_reply
  read_of f e h = rw (← decoded, e) h

  pub read_short : w ≡ None → Laid limit (fail service too_short) old r new
      → Laid limit (read_reply structures memory service (target_of g []) body limit) old r new
  unfolding read_reply
  read_short e h = rw (← decoded, e) h

-- a write's answer, by what it came to
stored_answers : (limit service : ℕ) (s : Stored) (old : List ℕ) (r : ℕ) (new before after : List ℕ) (stored : Result (Unit {0}) Status) (status : Status)
    → Stores s before stored after → status_of status ≡ status_said stored → Laid limit (fail service (status_of status)) old r new
    → Answers limit (store_answer service s before) old r new after
stored_answers limit service s old r new before after stored status k q h = rw (k.answer_is service, ← q)
    (laid_answers limit (fail service (status_of status)) old r new after h)

module _ (structures : List Row) (memory : List ℕ) (service : ℕ) (g : Target) (body : List ℕ) (limit : ℕ) (old : List ℕ) (r : ℕ) (new : List ℕ) where
  abbrev Served : (after : List ℕ) → Type 0
  Served after = Answers limit (on_found structures memory service (target_of g []) body limit) old r new after

  module _ (b : Bool) (is : b ≡ is_read service) where
    pub serve_read : b ≡ true → Laid limit (read_reply structures memory service (target_of g []) body limit) old r new → Served memory
    serve_read e h = rw (← is, e) (laid_answers limit _ old r new memory h)

    module _ (e : b ≡ false) (stored : Result (Unit {0}) Status) (status : Status) (said : status_of status ≡ status_said stored) (after : List ℕ)
        (h : Laid limit (fail service (status_of status)) old r new) where
      pub serve_masked : service ≡ 0x4E → Stores (masked_stored memory (target_of g []) body) memory stored after → Served after
      serve_masked k s = rw (← is, e, eq-eqb service 0x4E k) (stored_answers limit service _ old r new memory after stored status s said h)

      pub serve_written : service ≢ 0x4E → Stores (write_stored structures memory service (target_of g []) body) memory stored after → Served after
      serve_written k s = rw (← is, e, ne_eqb service 0x4E k) (stored_answers limit service _ old r new memory after stored status s said h)

pub ruleset serving = (serve_read, serve_masked, serve_written)

-- ---- on a path

module _ (tables : Tables) (f : Flags) (memory : List ℕ) (service : ℕ) (path body : List ℕ) (limit : ℕ) (writes : Bool) (is : writes ≡ is_write service)
    (resolved : Result Target Status) (target : Targets tables f writes path resolved) (old : List ℕ) (r : ℕ) (new after : List ℕ) where
  abbrev Tagged : Type 0
  Tagged = OnPath path limit (λ l. tag_service tables f memory service l body limit) old r new after

  pub tag-turned : (status : Status) → resolved ≡ Err status → after ≡ memory → Laid limit (fail service (status_of status)) old r new → Tagged
  unfolding tag_service
  tag-turned status e k h = record {
    is = λ l s.
        let t : tag_target tables f writes l ≡ turned (status_of status) = rw e at (target.is tables l s) in
        rw (← is, t, k) (laid_answers limit _ old r new memory h);
  }

  pub tag_found : (g : Target) → resolved ≡ Ok g
      → Answers limit (on_found tables.structures memory service (target_of g []) body limit) old r new after → Tagged
  unfolding tag_service
  tag_found g e h = record {
    is = λ l s.
        let t = rw e at (target.is tables l s) in
        let n = t.lengths in
        rw (
          ← is,
          t.is,
          read_any_lengths tables.structures memory service g n limit body,
          write_any_lengths tables.structures memory g n body service,
          masked_any_lengths tables.structures memory g n body,
        )
        h;
  }

module _ (tables : Tables) (path : List ℕ) (f : Flags) (writes : Bool) (memory : ℕ) (ok : valid tables memory ≡ true)
    (decodes : is_some (segments path) ≡ true) where
  pub tag_aimed : (g : Target) (resolved : Result Target Status) → resolved ≡ Ok g → Targets tables f writes path resolved → Aimed tables.structures memory g
  tag_aimed g resolved e target = found_aimed tables path f writes g memory ok decodes (subst (Targets tables f writes path) e target)
