-- Whole reads and whole lists of the pallet bench, computed from the definition: one of each outcome.
-- Assumes nothing.
use mathlib.Core.Path.{◌≡◌, refl}
use mathlib.Core.List.{List, [], ◌∷◌, ◌++◌}
use Prim.Native.Nat.{ℕ}
use lib.ListN.{replicate}
use Rattle.std.specs.Prelude.{Option, None, Some, Ok, Err}
use Rattle.laws.specs.Until.{until}
use Rattle.definition.specs.Pallet.{pallet, pallet_flags, up_from, pallet_memory, pallet_start, rows, cell_run}
use Rattle.definition.specs.Computed.{compute}
use Rattle.continued.specs.Point3.{read_request}
use Rattle.logix.specs.Entering.{entered}
use Rattle.logix.specs.declared.entry.Refusal.TheVariants.{LimitTooLarge, BufferTooShort}
use Rattle.whole.specs.declared.ReplyStatus.{ReplyStatus}
use Rattle.whole.specs.declared.Unjoined.TheVariants.{TooShort, TooNarrow, Turned, Refused, Unsendable}
use Rattle.whole.specs.Whole.{chosen, Received, received, word_in, whole_of, whole_read}
use Rattle.whole.specs.Lists.{scope_of, entries_of, scope_path, list_path, list_request, longest, whole_of_list, whole_list}

-- a path and an element count; the limit, the reply buffer's length, and the lent buffer's
abbrev whole : (path : List ℕ) (elements limit buffer out : ℕ) → Received
whole path elements limit buffer out = whole_read pallet pallet_flags pallet_start path elements limit (replicate buffer 0xDD) (replicate out 0xEE)

abbrev status : (general : ℕ) → (word : Option ℕ) → ReplyStatus
status general word = record { general = general; word = word }

abbrev unjoined : ℕ → List ℕ
unjoined n = replicate n 0xEE

abbrev unsent : ℕ → List ℕ
unsent n = replicate n 0xDD

outcomes : List Received
outcomes =
    whole rows 10 22 23 42
    ∷ whole rows 10 7 8 40
    ∷ whole cell_run 1 100 100 1
    ∷ whole rows 10 22 22 39
    ∷ whole rows 10 6 8 40
    ∷ whole rows 11 22 22 40
    ∷ whole (0x20 ∷ 0x6B ∷ []) 1 22 22 40
    ∷ whole rows 10 65536 22 40
    ∷ whole rows 10 22 21 40
    ∷ whole (0x91 ∷ []) 10 22 22 40
    ∷ []

-- the last of three replies brings 8 bytes, the last of forty 1 byte
expected : List Received
expected =
    received (Ok 40) (up_from 1 40 ++ unjoined 2) ((0xD2 ∷ 0 ∷ 0 ∷ 0 ∷ 0xC4 ∷ 0 ∷ up_from 33 8) ++ replicate 8 0 ++ unsent 1)
    ∷ received (Ok 40) (up_from 1 40) (0xD2 ∷ 0 ∷ 0 ∷ 0 ∷ 0xC4 ∷ 0 ∷ 40 ∷ 0 ∷ [])
    ∷ received (Ok 1) (1 ∷ []) ((0xD2 ∷ 0 ∷ 0 ∷ 0 ∷ 0xC1 ∷ 0 ∷ 1 ∷ []) ++ replicate 93 0)
    ∷ received (Err (TooShort 40)) (unjoined 39) (unsent 22)
    ∷ received (Err TooNarrow) (unjoined 40) (unsent 8)
    ∷ received (Err (Turned (status 0xFF (Some 0x2105)))) (unjoined 40) ((0xD2 ∷ 0 ∷ 0xFF ∷ 1 ∷ 0x05 ∷ 0x21 ∷ []) ++ replicate 16 0)
    ∷ received (Err (Turned (status 0x05 None))) (unjoined 40) ((0xD2 ∷ 0 ∷ 0x05 ∷ 0 ∷ []) ++ replicate 18 0)
    ∷ received (Err (Refused LimitTooLarge)) (unjoined 40) (unsent 22)
    ∷ received (Err (Refused BufferTooShort)) (unjoined 40) (unsent 21)
    ∷ received (Err Unsendable) (unjoined 40) (unsent 22)
    ∷ []

whole_reads : outcomes ≡ expected
unfolding outcomes expected compute pallet pallet_flags pallet_memory pallet_start up_from read_request until chosen word_in entered whole_of whole_read
whole_reads = refl

-- ---- whole lists: IDs and types of the bench's three symbols, of which the last has the highest ID that there is

-- a program's name and a list of attributes; the limit, the reply buffer's length, and the lent buffer's
abbrev whole_list_lem : (program attributes : List ℕ) (limit buffer out : ℕ) → Received
whole_list_lem program attributes limit buffer out =
    whole_list pallet pallet_flags pallet_start program attributes limit (replicate buffer 0xDD) (replicate out 0xEE)

-- attribute 2 alone
abbrev types : List ℕ
types = 1 ∷ 0 ∷ 2 ∷ 0 ∷ []

abbrev symbols : List ℕ
symbols = 1 ∷ 0 ∷ 0 ∷ 0 ∷ 0xC4 ∷ 0x00 ∷ 2 ∷ 0 ∷ 0 ∷ 0 ∷ 0xC4 ∷ 0x20 ∷ 0xFF ∷ 0xFF ∷ 0xFF ∷ 0xFF ∷ 0x00 ∷ 0x81 ∷ []

list_outcomes : List Received
unfolding scope_of entries_of scope_path list_path list_request longest until word_in entered whole_of_list whole_list
list_outcomes =
    whole_list_lem [] types 10 10 20
    ∷ whole_list_lem [] types 100 100 18
    ∷ whole_list_lem [] types 100 100 17
    ∷ whole_list_lem [] types 9 9 18
    ∷ whole_list_lem (0x50 ∷ []) types 100 100 18
    ∷ whole_list_lem [] (2 ∷ 0 ∷ 2 ∷ 0 ∷ []) 100 100 18
    ∷ whole_list_lem [] (1 ∷ 0 ∷ 4 ∷ 0 ∷ []) 100 100 18
    ∷ whole_list_lem [] types 65536 22 18
    ∷ whole_list_lem [] types 10 9 18
    ∷ whole_list_lem (replicate 256 0x50) types 100 100 18
    ∷ []

-- the last of three pages brings the last symbol, the only one of one page all of them
lists_expected : List Received
lists_expected =
    received (Ok 18) (symbols ++ unjoined 2) (0xD5 ∷ 0 ∷ 0 ∷ 0 ∷ 0xFF ∷ 0xFF ∷ 0xFF ∷ 0xFF ∷ 0x00 ∷ 0x81 ∷ [])
    ∷ received (Ok 18) symbols ((0xD5 ∷ 0 ∷ 0 ∷ 0 ∷ symbols) ++ replicate 78 0)
    ∷ received (Err (TooShort 18)) (unjoined 17) (unsent 100)
    ∷ received (Err TooNarrow) (unjoined 18) (unsent 9)
    ∷ received (Err (Turned (status 0x05 None))) (unjoined 18) ((0xD5 ∷ 0 ∷ 0x05 ∷ 0 ∷ []) ++ replicate 96 0)
    ∷ received (Err (Turned (status 0x13 None))) (unjoined 18) ((0xD5 ∷ 0 ∷ 0x13 ∷ 0 ∷ []) ++ replicate 96 0)
    ∷ received (Err (Turned (status 0x14 None))) (unjoined 18) ((0xD5 ∷ 0 ∷ 0x14 ∷ 0 ∷ []) ++ replicate 96 0)
    ∷ received (Err (Refused LimitTooLarge)) (unjoined 18) (unsent 22)
    ∷ received (Err (Refused BufferTooShort)) (unjoined 18) (unsent 9)
    ∷ received (Err Unsendable) (unjoined 18) (unsent 100)
    ∷ []

whole_lists : list_outcomes ≡ lists_expected
unfolding list_outcomes lists_expected compute pallet pallet_flags pallet_memory pallet_start up_from
whole_lists = refl
