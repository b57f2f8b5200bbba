-- Lines as the definition reads them, computed.
use mathlib.Core.Path.{◌≡◌, refl}
use Rattle.std.specs.Prelude.{Ok, Err, None}
use mathlib.Core.List.{[], ◌∷◌}
use Rattle.laws.specs.Tests.{every, stretch}
use Rattle.input.specs.Lines.{asks_for, digit_of, is_number, number, limit_of, byte_of, bytes_in, limited_by, asked_by, parsed}
use Rattle.input.specs.declared.hex.Fault.TheVariants.{Odd}

-- `@9 4C 04 # x`
limited_line : parsed 65535 (0x40 ∷ 0x39 ∷ 0x20 ∷ 0x34 ∷ 0x43 ∷ 0x20 ∷ 0x30 ∷ 0x34 ∷ 0x20 ∷ 0x23 ∷ 0x20 ∷ 0x78 ∷ [])
    ≡ record { asks = asks_for 9 2; bytes = 0x4C ∷ 0x04 ∷ [] }
unfolding every stretch digit_of is_number number limit_of byte_of bytes_in limited_by asked_by parsed
limited_line = refl

-- `4c045`: the last digit stands alone
odd-line : parsed 65535 (0x34 ∷ 0x63 ∷ 0x30 ∷ 0x34 ∷ 0x35 ∷ []) ≡ record { asks = Err Odd; bytes = 0x4C ∷ 0x04 ∷ [] }
unfolding every stretch digit_of is_number number limit_of byte_of bytes_in limited_by asked_by parsed
odd-line = refl

-- ` # x`
comment_line : parsed 65535 (0x20 ∷ 0x23 ∷ 0x20 ∷ 0x78 ∷ []) ≡ record { asks = Ok None; bytes = [] }
unfolding every stretch digit_of is_number number limit_of byte_of bytes_in limited_by asked_by parsed
comment_line = refl
