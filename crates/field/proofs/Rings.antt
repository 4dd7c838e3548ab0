-- What follows from the laws of a field. Assumes nothing.
use mathlib.Core.Path.{◌≡◌, sym, ap, ap₂, ◌∙◌}
use Rattle.field.specs.Laws.{Ring, Laws}

module _ {R : Ring} (laws : Laws R) where
  open R use {Member, zero, one, ◌⊕◌, ◌⊗◌, neg}

  infixl 50 ◌⊕◌
  infixl 60 ◌⊗◌
  pub zero_plus : (a : Member) → zero ⊕ a ≡ a
  zero_plus a = laws.plus_comm zero a ∙ laws.plus_zero a

  pub plus_swap : (a b c : Member) → a ⊕ (b ⊕ c) ≡ b ⊕ (a ⊕ c)
  plus_swap a b c = sym (laws.plus_assoc a b c) ∙ ap (λ x. x ⊕ c) (laws.plus_comm a b) ∙ laws.plus_assoc b a c

  -- what equals its own double is zero
  pub plus_same : (a : Member) → a ⊕ a ≡ a → a ≡ zero
  plus_same a e =
      sym (laws.plus_zero a) ∙ ap (λ x. a ⊕ x) (sym (laws.plus_neg a)) ∙ sym (laws.plus_assoc a a (neg a)) ∙ ap (λ x. x ⊕ neg a) e ∙ laws.plus_neg a

  pub times_zero : (a : Member) → a ⊗ zero ≡ zero
  times_zero a = plus_same (a ⊗ zero) (sym (laws.times_plus a zero zero) ∙ ap (λ x. a ⊗ x) (laws.plus_zero zero))

  pub zero_times : (a : Member) → zero ⊗ a ≡ zero
  zero_times a = laws.times_comm zero a ∙ times_zero a

  pub one_times : (a : Member) → one ⊗ a ≡ a
  one_times a = laws.times_comm one a ∙ laws.times_one a

  pub plus_times : (a b c : Member) → (a ⊕ b) ⊗ c ≡ a ⊗ c ⊕ b ⊗ c
  plus_times a b c = laws.times_comm (a ⊕ b) c ∙ laws.times_plus c a b ∙ ap₂ ◌⊕◌ (laws.times_comm c a) (laws.times_comm c b)

  -- the only one that b needs to be zero
  pub neg_is : (a b : Member) → a ⊕ b ≡ zero → b ≡ neg a
  neg_is a b e =
      sym (zero_plus b) ∙ ap (λ x. x ⊕ b) (sym (laws.plus_comm (neg a) a ∙ laws.plus_neg a)) ∙ laws.plus_assoc (neg a) a b ∙ ap (λ x. neg a ⊕ x) e ∙ laws.plus_zero (neg a)

  pub neg_times : (a b : Member) → neg a ⊗ b ≡ neg (a ⊗ b)
  neg_times a b = neg_is (a ⊗ b) (neg a ⊗ b) (sym (plus_times a (neg a) b) ∙ ap (λ x. x ⊗ b) (laws.plus_neg a) ∙ zero_times b)

  pub neg_one : (a : Member) → neg one ⊗ a ≡ neg a
  neg_one a = neg_times one a ∙ ap neg (one_times a)

  pub plus_four : (a b c d : Member) → a ⊕ b ⊕ (c ⊕ d) ≡ a ⊕ c ⊕ (b ⊕ d)
  plus_four a b c d = laws.plus_assoc a b (c ⊕ d) ∙ ap (λ x. a ⊕ x) (plus_swap b c d) ∙ sym (laws.plus_assoc a c (b ⊕ d))
