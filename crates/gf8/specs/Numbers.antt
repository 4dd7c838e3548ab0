-- The byte that a number below 256 is, and back. Assumes nothing.
use Rattle.std.specs.Prelude.{◌≡◌, ℕ, zero, suc, ◌+◌, ◌*◌, ◌/◌, ◌%◌, ◌^◌, ◌<◌, ◌≤◌, Bool, true, false, cond, ◌&&◌, T, List, [], ◌∷◌, ◌==◌, nat_eq, nat_lt, slice_index_or, refl}
use Rattle.std.proofs.Common.{sym, ap, subst, ◌∙◌, ⊎_elim, not-suc-le-zero, mod-lt, div-one, one-add, arith, eqb→eq, lit<}
use Rattle.std.proofs.Math.Nat.{zero-div}
use Rattle.std.specs.Int.Bits.{bit_xor}
use Rattle.std.proofs.lemmas.Bool.{cases_lt, cond-true, cond-false, lt-ltb, le-ltb, eq-eqb, ne_eqb}
use Rattle.std.proofs.lemmas.Nat.{shr-shr, xor_shr, xor_mod, xor_lt}
use Rattle.gf8.specs.Polynomials.{xor, Byte, ◌⊕◌, xtimes, coefficients}
use Rattle.gf8.specs.Models.{bit, byte_of, binary, number}
use Rattle.gf8.specs.PolynomialsLemmas.{alike}

-- a test at each number below n, which antt computes
abbrev all : (ℕ → Bool) → ℕ → Bool
all f zero = true
all f (suc n) = f n && all f n

and_left : (a b : Bool) → T (a && b) → T a
and_left true b t = tt
and_left false b t = t

and_right : (a b : Bool) → T (a && b) → T b
and_right true b t = t
and_right false b t = absurd t

all_at : (f : ℕ → Bool) (n : ℕ) → T (all f n) → (k : ℕ) → k < n → T (f k)
all_at f zero t k h = absurd (not-suc-le-zero h)
all_at f (suc n) t k h =
    ⊎_elim (all_at f n (and_right (f n) (all f n) t) k)
    (λ (above : n ≤ k). let e : n ≡ k = omega arith in subst (λ (m : ℕ). T (f m)) e (and_left (f n) (all f n) t))
    (cases_lt k n)

pub number_byte : (n : ℕ) → n < 256 → number (byte_of n) ≡ n
number_byte n h = eqb→eq _ _ (all_at (λ k. nat_eq (number (byte_of k)) k) 256 tt n h)

-- a number with one more binary digit: that digit, and the number without it
digit_back : (b : Bool) (n : ℕ) → ((cond b 1 0 + 2 * n) % 2 == 1) ≡ b
digit_back true n = eq-eqb ((1 + 2 * n) % 2) 1 (omega arith)
digit_back false n = ne_eqb ((0 + 2 * n) % 2) 1 (λ e. omega arith)

digit_gone : (b : Bool) (n : ℕ) → (cond b 1 0 + 2 * n) / 2 ≡ n
digit_gone true n = omega arith
digit_gone false n = omega arith

binary_bit : (bs : List Bool) (i : ℕ) → bit (binary bs) i ≡ slice_index_or bs i false
binary_bit [] i = ne_eqb (0 / 2 ^ i % 2) 1 (λ e. omega (arith, zero-div (2 ^ i)))
binary_bit (b ∷ bs) zero =
    ap (λ (k : ℕ). nat_eq (k % 2) 1) (div-one (cond b 1 0 + 2 * binary bs)) ∙ digit_back b (binary bs)
binary_bit (b ∷ bs) (suc i) =
    ap (λ (k : ℕ). nat_eq (k % 2) 1) (halved (cond b 1 0 + 2 * binary bs) i ∙ ap (λ (k : ℕ). k / 2 ^ i) (digit_gone b (binary bs)))
    ∙ binary_bit bs i
  where
    halved : (n i : ℕ) → n / 2 ^ suc i ≡ n / 2 / 2 ^ i
    halved n i = ap (λ (k : ℕ). n / 2 ^ k) (sym (one-add i)) ∙ sym (shr-shr n 1 i)

pub byte_number : (p : Byte) → byte_of (number p) ≡ p
byte_number p =
    let bit_is = binary_bit (coefficients p) in
    alike (bit_is 7) (bit_is 6) (bit_is 5) (bit_is 4) (bit_is 3) (bit_is 2) (bit_is 1) (bit_is 0)

-- the sum of two bytes, as numbers
xor_of_bits : (m n : ℕ) → m < 2 → n < 2 → (bit_xor m n == 1) ≡ xor (m == 1) (n == 1)
xor_of_bits zero zero hm hn = refl
xor_of_bits zero (suc zero) hm hn = refl
xor_of_bits (suc zero) zero hm hn = refl
xor_of_bits (suc zero) (suc zero) hm hn = refl
xor_of_bits zero (suc (suc n)) hm hn = absurd (omega arith)
xor_of_bits (suc zero) (suc (suc n)) hm hn = absurd (omega arith)
xor_of_bits (suc (suc m)) n hm hn = absurd (omega arith)

xor_bit : (m n i : ℕ) → bit (bit_xor m n) i ≡ xor (bit m i) (bit n i)
xor_bit m n i =
    ap (λ (k : ℕ). nat_eq (k % 2) 1) (xor_shr m n i)
    ∙ ap (λ (k : ℕ). nat_eq k 1) (xor_mod (m / 2 ^ i) (n / 2 ^ i) 1)
    ∙ xor_of_bits (m / 2 ^ i % 2) (n / 2 ^ i % 2) (mod-lt (m / 2 ^ i) (lit< tt)) (mod-lt (n / 2 ^ i) (lit< tt))

pub xor_byte : (m n : ℕ) → byte_of (bit_xor m n) ≡ byte_of m ⊕ byte_of n
xor_byte m n =
    alike (xor_bit m n 7) (xor_bit m n 6) (xor_bit m n 5) (xor_bit m n 4) (xor_bit m n 3) (xor_bit m n 2) (xor_bit m n 1) (xor_bit m n 0)

pub xor_number : (m n : ℕ) → m < 256 → n < 256 → bit_xor m n ≡ number (byte_of m ⊕ byte_of n)
xor_number m n hm hn = sym (number_byte (bit_xor m n) (xor_lt 8 m n hm hn)) ∙ ap number (xor_byte m n)

-- x times a byte, as numbers: a test at each of the 256
xtimes_code : ℕ → ℕ
xtimes_code n = cond (nat_lt n 128) (n * 2 % 256) (bit_xor (n * 2 % 256) 27)

xtimes_right : (n : ℕ) → n < 256 → xtimes_code n ≡ number (xtimes (byte_of n))
unfolding xtimes_code
xtimes_right n h = eqb→eq _ _ (all_at (λ k. nat_eq (xtimes_code k) (number (xtimes (byte_of k)))) 256 tt n h)

pub xtimes_low : (n : ℕ) → n < 128 → n * 2 % 256 ≡ number (xtimes (byte_of n))
unfolding xtimes_code
xtimes_low n h = sym (cond-true (nat_lt n 128) _ _ (lt-ltb n 128 h)) ∙ xtimes_right n (omega arith)

pub xtimes_high : (n : ℕ) → 128 ≤ n → n < 256 → bit_xor (n * 2 % 256) 27 ≡ number (xtimes (byte_of n))
unfolding xtimes_code
xtimes_high n above h = sym (cond-false (nat_lt n 128) _ _ (le-ltb n 128 above)) ∙ xtimes_right n h
