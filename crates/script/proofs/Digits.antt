-- Reading digits one by one, and what the whole comes to.
use Rattle.std.proofs.Common.{◌≡◌, ℕ, suc, ◌+◌, ◌*◌, ◌^◌, ◌<◌, ◌≤◌, List, drop, pow-suc, arith}
use native.Mathlib.Nat.{pow-le-pow_right}
use Rattle.std.specs.Str.{all_ascii_digits}
use Rattle.script.specs.Numbers.{read_digits}

-- The first i of the bytes are digits and write n.
pub record Reading (bs : List ℕ) (i n : ℕ) : Type 0 where
  pub digits : all_ascii_digits bs ≡ all_ascii_digits (drop i bs)
  pub value : read_digits 0 bs ≡ read_digits n (drop i bs)
  pub small : n < 10 ^ i

pub reading_room : (bs : List ℕ) (i n : ℕ) → Reading bs i n → i < 15 → n * 10 + 9 < 10 ^ 15
reading_room bs i n r near =
    let p : 10 ^ suc i ≤ 10 ^ 15 = pow-le-pow_right {n = 10} (omega arith) near in
    let q = pow-suc 10 i in
    let s = r.small in
    omega arith
