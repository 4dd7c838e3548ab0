-- The laws of the integers modulo 2147483647. Assumes nothing.
use Rattle.std.specs.Prelude.{◌≡◌, ℕ, suc, ◌+◌, ◌*◌, ◌/◌, ◌%◌}
use Rattle.std.proofs.Common.{sym, ap, ◌∙◌, add_comm, add_assoc, mul_comm, mul_assoc, mul-one, mul-add, mod-eq_of_lt, arith}
use mathlib.Core.HLevel.{Σ_prop_path}
use Rattle.std.proofs.Math.Nat.{mod-add-mod, add-mod-mod, mod-add-div, add-mul-mod_self_left}
use Rattle.std.proofs.Math.Bridge.{le_prop}
use Rattle.field.specs.Laws.{Laws}
use Rattle.p31.specs.Residues.{modulus, Residue, residue, residues}

-- a member is its number
pub residue_path : {a b : Residue} → a.0 ≡ b.0 → a ≡ b
residue_path {a} {b} e = Σ_prop_path (λ (k : ℕ). le_prop {n = suc k} {m = modulus}) {u = a} {v = b} e

-- a factor may go down to its remainder
pub mul_mod_mod : (a b m : ℕ) → a * (b % m) % m ≡ a * b % m
mul_mod_mod a b m =
    sym (add-mul-mod_self_left (a * (b % m)) m (a * (b / m)))
    ∙ ap (λ (n : ℕ). n % m) (omega (arith, ap (λ (n : ℕ). a * n) (mod-add-div b m)))

pub mod_mul_mod : (a b m : ℕ) → a % m * b % m ≡ a * b % m
mod_mul_mod a b m =
    ap (λ (n : ℕ). n % m) (mul_comm (a % m) b) ∙ mul_mod_mod b a m ∙ ap (λ (n : ℕ). n % m) (mul_comm b a)

pub residues_laws : Laws residues
residues_laws = record {
  plus_comm = λ a b. ap residue (add_comm a.0 b.0);
  plus_assoc = λ a b c. residue_path (mod-add-mod (a.0 + b.0) modulus c.0 ∙ ap (λ (n : ℕ). n % modulus) (add_assoc a.0 b.0 c.0) ∙ sym (add-mod-mod a.0 (b.0 + c.0) modulus));
  plus_zero = λ a. residue_path (omega (arith, a.1));
  plus_neg = λ a. residue_path (omega (arith, a.1));
  times_comm = λ a b. ap residue (mul_comm a.0 b.0);
  times_assoc = λ a b c. residue_path (mod_mul_mod (a.0 * b.0) c.0 modulus ∙ ap (λ (n : ℕ). n % modulus) (mul_assoc a.0 b.0 c.0) ∙ sym (mul_mod_mod a.0 (b.0 * c.0) modulus));
  times_one = λ a. residue_path (ap (λ (n : ℕ). n % modulus) (mul-one a.0) ∙ mod-eq_of_lt a.1);
  times_plus = λ a b c. residue_path (mul_mod_mod a.0 (b.0 + c.0) modulus ∙ ap (λ (n : ℕ). n % modulus) (mul-add a.0 b.0 c.0) ∙ sym (mod-add-mod (a.0 * b.0) modulus (a.0 * c.0 % modulus) ∙ add-mod-mod (a.0 * b.0) (a.0 * c.0) modulus));
  one_not_zero = λ e. omega (arith, ap (λ (r : Residue). r.0) e);
}
