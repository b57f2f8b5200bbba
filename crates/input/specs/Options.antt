-- The words behind the program's name: `--help`, `--numbers`, `--tables`, `--join`, and one that names the table image. Characters are ASCII.
use Rattle.std.specs.Prelude.{Bool, true, false, List, [], ◌∷◌, ℕ, eqb, Option, Some, None}
use Rattle.std.specs.Option.{option_or}
use denote.Ref.{Bor}
use Rattle.laws.specs.Pick.{pick, is_some}
use Rattle.laws.specs.Zip.{agree}
use Rattle.input.specs.declared.options.Argument.{Argument}
use Rattle.input.specs.declared.options.Argument.TheVariants.{Help, Numbers, Tables, Join, File, Unknown, TooLong}
use Rattle.input.specs.declared.options.Options.{Options}

abbrev pub is_dashed : List ℕ → Bool
is_dashed [] = false
is_dashed (c ∷ text) = eqb c 0x2D

-- a word that begins with a minus sign
unfoldable pub option_of : List ℕ → Argument
option_of text =
    pick (agree eqb text (0x2D ∷ 0x2D ∷ 0x68 ∷ 0x65 ∷ 0x6C ∷ 0x70 ∷ [])) Help
    (pick (agree eqb text (0x2D ∷ 0x2D ∷ 0x6E ∷ 0x75 ∷ 0x6D ∷ 0x62 ∷ 0x65 ∷ 0x72 ∷ 0x73 ∷ [])) Numbers
    (pick (agree eqb text (0x2D ∷ 0x2D ∷ 0x74 ∷ 0x61 ∷ 0x62 ∷ 0x6C ∷ 0x65 ∷ 0x73 ∷ [])) Tables
    (pick (agree eqb text (0x2D ∷ 0x2D ∷ 0x6A ∷ 0x6F ∷ 0x69 ∷ 0x6E ∷ [])) Join Unknown)))

-- a word; one that is too long is not all there
unfoldable pub word_of : Option (Bor (List ℕ)) → Argument
word_of None = TooLong
word_of (Some text) = pick (is_dashed text.now) (option_of text.now) File

-- ---- what all words ask for

-- the first word that is not taken is said
abbrev pub refused_in : Options → ℕ → Options
refused_in o i = record { help = o.help; numbers = o.numbers; tables = o.tables; join = o.join; file = o.file; wrong = option_or o.wrong (Some i) }

-- the first word that is no option is the file, a second one is refused
abbrev pub file_in : Options → ℕ → Options
file_in o i =
    pick (is_some o.file) (refused_in o i)
    (record { help = o.help; numbers = o.numbers; tables = o.tables; join = o.join; file = Some i; wrong = o.wrong })

abbrev pub taken_by : Options → (i : ℕ) → Argument → Options
taken_by o i Help = record { help = true; numbers = o.numbers; tables = o.tables; join = o.join; file = o.file; wrong = o.wrong }
taken_by o i Numbers = record { help = o.help; numbers = true; tables = o.tables; join = o.join; file = o.file; wrong = o.wrong }
taken_by o i Tables = record { help = o.help; numbers = o.numbers; tables = true; join = o.join; file = o.file; wrong = o.wrong }
taken_by o i Join = record { help = o.help; numbers = o.numbers; tables = o.tables; join = true; file = o.file; wrong = o.wrong }
taken_by o i File = file_in o i
taken_by o i Unknown = refused_in o i
taken_by o i TooLong = refused_in o i
