-- The bytes of the code's values.
use Rattle.std.specs.Prelude.{ℕ, List, [], ◌∷◌, ◌++◌, length}
use Rattle.definition.specs.Bytes.{le16, le32}
use Rattle.definition.specs.Symbols.{three32}
use Rattle.listing.specs.declared.values.Value.{Value}
use Rattle.listing.specs.declared.values.Value.TheVariants.{Byte, Short, Long, Lengths, Name, Reference}

-- a program's object: class 0x68 and its instance
abbrev pub reference : (instance : ℕ) → List ℕ
reference i = 0x03 ∷ 0x20 ∷ 0x68 ∷ 0x25 ∷ 0x00 ∷ le16 i

abbrev pub value_bytes : Value → List ℕ
value_bytes (Byte b) = b ∷ []
value_bytes (Short x) = le16 x
value_bytes (Long x) = le32 x
value_bytes (Lengths ns) = three32 ns
value_bytes (Name name) = le16 (length name.now) ++ name.now
value_bytes (Reference i) = reference i
