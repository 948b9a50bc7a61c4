-- A CPU's bit, as the pass over the CPUs keeps it: shifted by one or by eight.
-- Assumes nothing.
use Rattle.std.proofs.Common.{◌≡◌, ℕ, ◌+◌, ◌*◌, ◌%◌, ◌^◌, ◌<◌, ◌≤◌, arith, pow-add}
use lib.Pow.{pow-lt}
use Rattle.consistency.specs.Gathered.{cpu_bit}

-- below 64 it is the power itself
bit_is : (c x : ℕ) → c < 64 → x ≡ cpu_bit c → x ≡ 2 ^ c
bit_is c x h e = let small : 2 ^ c < 2 ^ 64 = pow-lt h in omega (arith, e, small)

pub bit_next : (c x : ℕ) → x ≡ cpu_bit c → x * 2 ^ 1 % 2 ^ 64 ≡ cpu_bit (c + 1)
bit_next c x e = let power : 2 ^ (c + 1) ≡ 2 ^ c * 2 = pow-add 2 c 1 in omega (arith, e, power)

pub bit_eighth : (c x : ℕ) → x ≡ cpu_bit c → x * 2 ^ 8 % 2 ^ 64 ≡ cpu_bit (c + 8)
bit_eighth c x e = let power : 2 ^ (c + 8) ≡ 2 ^ c * 256 = pow-add 2 c 8 in omega (arith, e, power)

-- one CPU, and eight, as masks
pub one_cpu : (c x : ℕ) → c < 64 → x ≡ cpu_bit c → x + 2 ^ c ≡ 2 ^ (c + 1)
one_cpu c x h e = let power : 2 ^ (c + 1) ≡ 2 ^ c * 2 = pow-add 2 c 1 in omega (arith, bit_is c x h e, power)

pub eight_cpus : (c x : ℕ) → c + 8 ≤ 64 → x ≡ cpu_bit c → x * 255 + 2 ^ c ≡ 2 ^ (c + 8)
eight_cpus c x h e = let power : 2 ^ (c + 8) ≡ 2 ^ c * 256 = pow-add 2 c 8 in omega (arith, bit_is c x (omega arith) e, power)

-- which fit in 64 bits
pub eight_fit : (c x : ℕ) → c + 8 ≤ 64 → x ≡ cpu_bit c → x * 255 < 2 ^ 64
eight_fit c x h e =
    let low : 2 ^ (c + 8) ≤ 2 ^ 64 = lib.Pow.pow_mono {i = c + 8} {j = 64} h in
    let some : 1 ≤ 2 ^ c = lib.Pow.pow_pos c in
    omega (arith, eight_cpus c x h e, low, some)
