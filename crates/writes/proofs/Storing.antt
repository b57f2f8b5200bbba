-- Writes: a refusal, a store, and the whole by its fields.
-- Assumes nothing.
use mathlib.Core.Path.{◌≡◌, refl}
use mathlib.Core.List.{List, [], ◌∷◌}
use Prim.Native.Nat.{ℕ, ◌<◌}
use mathlib.Core.Logic.{◌≢◌}
use mathlib.Core.Bool.{Bool, true, false}
use lib.Dec.{ltb, eqb}
use lib.ListN.{length, set}
use borrow.Author.Tests.{eq-eqb, ne_eqb}
use Rattle.std.specs.Prelude.{Option, Some, None, Result, Ok, Err}
use Rattle.std.specs.Option.{ok_or}
use Rattle.laws.specs.Pick.{pick, is_some}
use Rattle.laws.specs.Put.{put}
use Rattle.laws.proofs.Put.{set-put}
use Rattle.laws.proofs.Chain.{by_test, chain, pick_yes_by, pick_no_by}
use Rattle.definition.specs.Write.{Stored, store, no_store, fields_size, fields_of, write_bit, write_part, write_value, write_stored}
use Rattle.cip.specs.Statuses.{status_of}
use Rattle.cip.specs.declared.Status.{Status}
use Rattle.cip.specs.declared.Status.TheVariants.{TooShort}
use Rattle.definition.specs.Tables.{Row, no_bit}
use Rattle.definition.specs.Resolve.{Target}
use Rattle.writes.specs.Storing.{Stores, fields_as, fields_found, fields_in, BringsOffset, service_of, or_zero}
use Rattle.writes.specs.declared.values.Fields.{Fields as CodeFields}

-- a refusal leaves the memory, and a store puts bytes in
pub refuses : (s : Stored) (old : List ℕ) (status : Status) → no_store (status_of status) ≡ s → Stores s old (Err status) old
refuses s old status e = record { answer_is = λ service. rw (← e) }

pub puts : (s : Stored) (old new : List ℕ) (at : ℕ) (bytes : List ℕ) → store at bytes ≡ s → new ≡ put old at bytes → Stores s old (Ok tt) new
puts s old new at bytes e f = record { answer_is = λ service. rw (← e, f) }

pub puts_byte : (s : Stored) (old : List ℕ) (at v : ℕ) → at < length old → store at (v ∷ []) ≡ s → Stores s old (Ok tt) (set old at v)
puts_byte s old at v h e = puts s old (set old at v) at (v ∷ []) e (set-put old at v h)

pub ruleset stores = (refuses, puts, puts_byte, chain, pick_yes_by, pick_no_by)

-- an offset that only one service brings

pub offset_or_zero : (t : Bool) (n : ℕ) → or_zero (pick t (Some n) None) ≡ pick t n 0
offset_or_zero true n = refl
offset_or_zero false n = refl

-- ---- the whole of a write

module _ (structures : List Row) (memory : List ℕ) (service : ℕ) (g : Target) (body : List ℕ) (r : Option CodeFields)
    (read : fields_found r ≡ fields_in service body) (brings : BringsOffset service r) where
  pub fields_missing : (status : Status) → ok_or r TooShort ≡ Err status → Stores (write_stored structures memory service g body) memory (Err status) memory
  unfolding write_stored
  fields_missing status e =
      by_test (ltb (length body) (fields_size service body))
      (λ t. missing r e (rw t at read) (λ q. refuses _ _ _ (rw (t, q))))
      (λ t. there r e (rw t at read))
    where
      missing : {P : Type 0} (o : Option CodeFields) → ok_or o TooShort ≡ Err status → fields_found o ≡ None → (status ≡ TooShort → P) → P
      missing None p q f = f (cc p)
      missing (Some w) p q f = cc q

      there : {P : Type 0} (o : Option CodeFields) → ok_or o TooShort ≡ Err status → fields_found o ≡ Some (fields_of service body) → P
      there None p q = cc q
      there (Some w) p q = cc p

  module _ (w : CodeFields) (some : ok_or r TooShort ≡ Ok w) where
    given : (o : Option CodeFields) → ok_or o TooShort ≡ Ok w → fields_found o ≡ fields_in service body
        → (ltb (length body) (fields_size service body) ≡ false) × (fields_of service body ≡ fields_as w)
    given None p q = cc p
    given (Some v) p q =
        by_test (ltb (length body) (fields_size service body)) (λ t. cc (rw t at q))
        (λ t. let same : v ≡ w = cc p in (t, rw (← same) (cc (rw t at q))))

    pub writes_bit : (new : List ℕ) (said : Result (Unit {0}) Status) → g.bit ≢ no_bit → Stores (write_bit memory g (fields_as w)) memory said new
        → Stores (write_stored structures memory service g body) memory said new
    unfolding write_stored
    writes_bit new said b d = let f = given r some read in rw (f.0, ne_eqb _ _ b, f.1) d

    offset_brought : (o : Option CodeFields) → ok_or o TooShort ≡ Ok w → BringsOffset service o → eqb service 0x53 ≡ is_some w.offset
    offset_brought None p q = cc p
    offset_brought (Some v) p q = let same : v ≡ w = cc p in rw (← same) q

    -- but for the offset one service writes as the other
    by_offset : (offset : Option ℕ) → eqb service 0x53 ≡ is_some offset
        → write_value structures service g (fields_as w) ≡ write_value structures (service_of offset) g (fields_as w)
    unfolding write_value write_part
    by_offset None e = rw e refl
    by_offset (Some offset) e = rw e refl

    pub writes_value : (new : List ℕ) (said : Result (Unit {0}) Status) → g.bit ≡ no_bit
        → Stores (write_value structures (service_of w.offset) g (fields_as w)) memory said new
        → Stores (write_stored structures memory service g body) memory said new
    unfolding write_stored
    writes_value new said b d =
        let f = given r some read in
        rw (f.0, eq-eqb _ _ b, f.1, by_offset w.offset (offset_brought r some brings)) d
