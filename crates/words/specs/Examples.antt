-- The definitions computed on document 01's examples.
use Rattle.std.specs.Prelude.{◌≡◌, true, refl}
use Rattle.isa.specs.Operations.{sub, sra, blt, mac}
use Rattle.words.specs.Words.{calculated, holds}

-- "sub .. 2, 3 .. gives 0xFFFFFFFC": 2 - 3 - 3.
sub_example : calculated sub 2 3 3 ≡ 0xFFFFFFFC
sub_example = refl

-- "sra of 0x80000000 by 31 gives 0xFFFFFFFF, by 32 no change"
sra_31 : calculated sra 0x80000000 31 0 ≡ 0xFFFFFFFF
sra_31 = refl

sra_32 : calculated sra 0x80000000 32 0 ≡ 0x80000000
sra_32 = refl

-- "blt of 0xFFFFFFFF and 0 jumps"
blt_example : holds blt 0xFFFFFFFF 0 ≡ true
blt_example = refl

-- "mac 0x10000×0x10000+1 gives 1"
mac_example : calculated mac 0x10000 0x10000 1 ≡ 1
mac_example = refl
