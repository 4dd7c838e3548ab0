-- The laws of the bytes of FIPS 197. A byte works on the bytes as a polynomial in `xtimes`, and two such commute.
-- Assumes nothing.
use Rattle.std.specs.Prelude.{◌≡◌, ℕ, zero, suc, Bool, true, false, ◌&&◌, [], ◌∷◌, map, refl}
use Rattle.std.proofs.Common.{sym, ap, ◌∙◌, true≢false}
use Rattle.field.specs.Laws.{Laws}
use Rattle.gf8.specs.Polynomials.{xor, Byte, constant, ◌⊕◌, xtimes, Polynomial, coefficients, coefficient, sum, product, remainder, modulus, Leaves, bytes}

-- ---- one coefficient

xor_comm : (a b : Bool) → xor a b ≡ xor b a
xor_comm false false = refl
xor_comm false true = refl
xor_comm true false = refl
xor_comm true true = refl

xor_assoc : (a b c : Bool) → xor (xor a b) c ≡ xor a (xor b c)
xor_assoc false b c = refl
xor_assoc true false c = refl
xor_assoc true true false = refl
xor_assoc true true true = refl

xor_false : (a : Bool) → xor a false ≡ a
xor_false false = refl
xor_false true = refl

xor_self : (a : Bool) → xor a a ≡ false
xor_self false = refl
xor_self true = refl

-- ---- sums of bytes

-- coefficient by coefficient
pub alike : {p q : Byte} → p.b7 ≡ q.b7 → p.b6 ≡ q.b6 → p.b5 ≡ q.b5 → p.b4 ≡ q.b4 → p.b3 ≡ q.b3 → p.b2 ≡ q.b2 → p.b1 ≡ q.b1 → p.b0 ≡ q.b0 → p ≡ q
alike e7 e6 e5 e4 e3 e2 e1 e0 = λ i. record { b7 = e7 i; b6 = e6 i; b5 = e5 i; b4 = e4 i; b3 = e3 i; b2 = e2 i; b1 = e1 i; b0 = e0 i }

pub plus_comm : (p q : Byte) → p ⊕ q ≡ q ⊕ p
plus_comm p q =
    alike (xor_comm p.b7 q.b7) (xor_comm p.b6 q.b6) (xor_comm p.b5 q.b5) (xor_comm p.b4 q.b4) (xor_comm p.b3 q.b3) (xor_comm p.b2 q.b2) (xor_comm p.b1 q.b1) (xor_comm p.b0 q.b0)

plus_assoc : (p q r : Byte) → p ⊕ q ⊕ r ≡ p ⊕ (q ⊕ r)
plus_assoc p q r =
    alike (xor_assoc p.b7 q.b7 r.b7) (xor_assoc p.b6 q.b6 r.b6) (xor_assoc p.b5 q.b5 r.b5) (xor_assoc p.b4 q.b4 r.b4) (xor_assoc p.b3 q.b3 r.b3) (xor_assoc p.b2 q.b2 r.b2) (xor_assoc p.b1 q.b1 r.b1) (xor_assoc p.b0 q.b0 r.b0)

plus_zero : (p : Byte) → p ⊕ constant false ≡ p
plus_zero p = plus_comm p (constant false)

plus_self : (p : Byte) → p ⊕ p ≡ constant false
plus_self p =
    alike (xor_self p.b7) (xor_self p.b6) (xor_self p.b5) (xor_self p.b4) (xor_self p.b3) (xor_self p.b2) (xor_self p.b1) (xor_self p.b0)

-- (p + q) + (r + s) is (p + r) + (q + s)
swap : (p q r s : Byte) → p ⊕ q ⊕ (r ⊕ s) ≡ p ⊕ r ⊕ (q ⊕ s)
swap p q r s =
    plus_assoc p q (r ⊕ s)
    ∙ ap (λ (t : Byte). p ⊕ t) (sym (plus_assoc q r s) ∙ ap (λ (t : Byte). t ⊕ s) (plus_comm q r) ∙ plus_assoc r q s)
    ∙ sym (plus_assoc p r (q ⊕ s))

xor_swap : (a b c d : Bool) → xor (xor a b) (xor c d) ≡ xor (xor a c) (xor b d)
xor_swap a b c d =
    xor_assoc a b (xor c d)
    ∙ ap (xor a) (sym (xor_assoc b c d) ∙ ap (λ (t : Bool). xor t d) (xor_comm b c) ∙ xor_assoc c b d)
    ∙ sym (xor_assoc a c (xor b d))

xtimes_plus : (p q : Byte) → xtimes (p ⊕ q) ≡ xtimes p ⊕ xtimes q
xtimes_plus p q =
    alike refl refl refl (xor_swap p.b3 q.b3 p.b7 q.b7) (xor_swap p.b2 q.b2 p.b7 q.b7) refl (xor_swap p.b0 q.b0 p.b7 q.b7) refl

-- ---- a polynomial in `xtimes`, at a byte

unfoldable pub scale : Bool → Byte → Byte
scale false v = constant false
scale true v = v

unfoldable pub at : Polynomial → Byte → Byte
at [] v = constant false
at (a ∷ p) v = scale a v ⊕ xtimes (at p v)

scale_plus : (a : Bool) (u v : Byte) → scale a (u ⊕ v) ≡ scale a u ⊕ scale a v
unfolding scale
scale_plus false u v = refl
scale_plus true u v = refl

at_plus : (p : Polynomial) (u v : Byte) → at p (u ⊕ v) ≡ at p u ⊕ at p v
unfolding at
at_plus [] u v = refl
at_plus (a ∷ p) u v =
    ap (λ (t : Byte). t ⊕ xtimes (at p (u ⊕ v))) (scale_plus a u v)
    ∙ ap (λ (t : Byte). scale a u ⊕ scale a v ⊕ t) (ap xtimes (at_plus p u v) ∙ xtimes_plus (at p u) (at p v))
    ∙ swap (scale a u) (scale a v) (xtimes (at p u)) (xtimes (at p v))

at_zero : (p : Polynomial) → at p (constant false) ≡ constant false
unfolding at scale
at_zero [] = refl
at_zero (false ∷ p) = ap xtimes (at_zero p)
at_zero (true ∷ p) = ap xtimes (at_zero p)

at_scale : (p : Polynomial) (a : Bool) (v : Byte) → at p (scale a v) ≡ scale a (at p v)
unfolding scale
at_scale p false v = at_zero p
at_scale p true v = refl

xtimes_scale : (a : Bool) (v : Byte) → scale a (xtimes v) ≡ xtimes (scale a v)
unfolding scale
xtimes_scale false v = refl
xtimes_scale true v = refl

at_xtimes : (p : Polynomial) (v : Byte) → at p (xtimes v) ≡ xtimes (at p v)
unfolding at
at_xtimes [] v = refl
at_xtimes (a ∷ p) v =
    ap (λ (t : Byte). t ⊕ xtimes (at p (xtimes v))) (xtimes_scale a v)
    ∙ ap (λ (t : Byte). xtimes (scale a v) ⊕ xtimes t) (at_xtimes p v)
    ∙ sym (xtimes_plus (scale a v) (xtimes (at p v)))

-- two polynomials commute
at_at : (p q : Polynomial) (v : Byte) → at p (at q v) ≡ at q (at p v)
unfolding at
at_at [] q v = sym (at_zero q)
at_at (a ∷ p) q v =
    ap (λ (t : Byte). t ⊕ xtimes (at p (at q v))) (sym (at_scale q a v))
    ∙ ap (λ (t : Byte). at q (scale a v) ⊕ t) (ap xtimes (at_at p q v) ∙ sym (at_xtimes q (at p v)))
    ∙ sym (at_plus q (scale a v) (xtimes (at p v)))

-- ---- the product of bytes is such a polynomial

remainder_sum : (p q : Polynomial) → remainder (sum p q) ≡ remainder p ⊕ remainder q
remainder_sum [] q = refl
remainder_sum (a ∷ p) [] = sym (plus_zero (remainder (a ∷ p)))
remainder_sum (a ∷ p) (b ∷ q) =
    ap (λ (t : Byte). constant (xor a b) ⊕ t) (ap xtimes (remainder_sum p q) ∙ xtimes_plus (remainder p) (remainder q))
    ∙ swap (constant a) (constant b) (xtimes (remainder p)) (xtimes (remainder q))

remainder_scaled : (a : Bool) (q : Polynomial) → remainder (map (λ b. a && b) q) ≡ scale a (remainder q)
unfolding scale
remainder_scaled false [] = refl
remainder_scaled false (b ∷ q) = ap xtimes (remainder_scaled false q)
remainder_scaled true [] = refl
remainder_scaled true (b ∷ q) = ap (λ (t : Byte). constant b ⊕ xtimes t) (remainder_scaled true q)

remainder_product : (p q : Polynomial) → remainder (product p q) ≡ at p (remainder q)
unfolding at
remainder_product [] q = refl
remainder_product (a ∷ p) q =
    remainder_sum (map (λ b. a && b) q) (false ∷ product p q)
    ∙ ap (λ (t : Byte). t ⊕ xtimes (remainder (product p q))) (remainder_scaled a q)
    ∙ ap (λ (t : Byte). scale a (remainder q) ⊕ xtimes t) (remainder_product p q)

remainder_byte : (p : Byte) → remainder (coefficients p) ≡ p
remainder_byte p =
    alike (four p.b7) (four p.b6) (four p.b5) (four p.b4) (three p.b3) (two p.b2) (two p.b1) (xor_false p.b0)
  where
    two : (a : Bool) → xor (xor a false) false ≡ a
    two a = xor_false (xor a false) ∙ xor_false a

    three : (a : Bool) → xor (xor (xor a false) false) false ≡ a
    three a = two (xor a false) ∙ xor_false a

    four : (a : Bool) → xor (xor (xor (xor a false) false) false) false ≡ a
    four a = three (xor a false) ∙ xor_false a

at_one : (p : Polynomial) → at p (constant true) ≡ remainder p
unfolding at scale
at_one [] = refl
at_one (false ∷ p) = ap xtimes (at_one p)
at_one (true ∷ p) = ap (λ (t : Byte). constant true ⊕ xtimes t) (at_one p)

unfoldable pub times : Byte → Byte → Byte
times p q = remainder (product (coefficients p) (coefficients q))

pub times_at : (p q : Byte) → times p q ≡ at (coefficients p) q
unfolding times
times_at p q = remainder_product (coefficients p) (coefficients q) ∙ ap (at (coefficients p)) (remainder_byte q)

times_one : (p : Byte) → times p (constant true) ≡ p
times_one p = times_at p (constant true) ∙ at_one (coefficients p) ∙ remainder_byte p

times_comm : (p q : Byte) → times p q ≡ times q p
times_comm p q =
    times_at p q
    ∙ ap (at (coefficients p)) (sym (times_one q) ∙ times_at q (constant true))
    ∙ at_at (coefficients p) (coefficients q) (constant true)
    ∙ ap (at (coefficients q)) (sym (times_at p (constant true)) ∙ times_one p)
    ∙ sym (times_at q p)

times_assoc : (p q r : Byte) → times (times p q) r ≡ times p (times q r)
times_assoc p q r =
    times_comm (times p q) r
    ∙ times_at r (times p q)
    ∙ ap (at (coefficients r)) (times_at p q)
    ∙ at_at (coefficients r) (coefficients p) q
    ∙ ap (at (coefficients p)) (sym (times_at r q) ∙ times_comm r q)
    ∙ sym (times_at p (times q r))

times_plus : (p q r : Byte) → times p (q ⊕ r) ≡ times p q ⊕ times p r
times_plus p q r =
    times_at p (q ⊕ r)
    ∙ at_plus (coefficients p) q r
    ∙ ap (λ (t : Byte). t ⊕ at (coefficients p) r) (sym (times_at p q))
    ∙ ap (λ (t : Byte). times p q ⊕ t) (sym (times_at p r))

pub bytes_laws : Laws bytes
unfolding times
bytes_laws = record {
  plus_comm = plus_comm;
  plus_assoc = plus_assoc;
  plus_zero = plus_zero;
  plus_neg = plus_self;
  times_comm = times_comm;
  times_assoc = times_assoc;
  times_one = times_one;
  times_plus = times_plus;
  one_not_zero = λ e. true≢false (ap (λ (p : Byte). p.b0) e);
}

-- a multiple of m(x) leaves nothing
leaves_nothing : (q : Polynomial) → remainder (product modulus q) ≡ constant false
leaves_nothing q =
    remainder_product modulus q
    ∙ ap (at modulus) (sym (at_one q))
    ∙ at_at modulus q (constant true)
    ∙ ap (at q) (at_one modulus)
    ∙ at_zero q

left_over : (r : Byte) (q : Polynomial) → remainder (sum (coefficients r) (product modulus q)) ≡ r
left_over r q =
    remainder_sum (coefficients r) (product modulus q)
    ∙ ap (λ (t : Byte). remainder (coefficients r) ⊕ t) (leaves_nothing q)
    ∙ plus_zero (remainder (coefficients r))
    ∙ remainder_byte r

-- ---- division by m(x), coefficient by coefficient

xor_exchange : (a b c : Bool) → xor a (xor b c) ≡ xor b (xor a c)
xor_exchange a b c = sym (xor_assoc a b c) ∙ ap (λ x. xor x c) (xor_comm a b) ∙ xor_assoc b a c

and_comm : (a b : Bool) → (a && b) ≡ (b && a)
and_comm true true = refl
and_comm true false = refl
and_comm false true = refl
and_comm false false = refl

and_false : (a : Bool) → (a && false) ≡ false
and_false a = and_comm a false

and_true : (a : Bool) → (a && true) ≡ a
and_true a = and_comm a true

xor_back : (a b : Bool) → xor (xor a b) (b && true) ≡ a
xor_back a b = ap (xor (xor a b)) (and_true b) ∙ xor_assoc a b b ∙ ap (xor a) (xor_self b) ∙ xor_false a

xor_stays : (a b : Bool) → xor a (b && false) ≡ a
xor_stays a b = ap (xor a) (and_false b) ∙ xor_false a

sum_coefficient : (p q : Polynomial) (i : ℕ) → coefficient (sum p q) i ≡ xor (coefficient p i) (coefficient q i)
sum_coefficient [] q i = refl
sum_coefficient (a ∷ p) [] i = sym (xor_false (coefficient (a ∷ p) i))
sum_coefficient (a ∷ p) (b ∷ q) zero = refl
sum_coefficient (a ∷ p) (b ∷ q) (suc i) = sum_coefficient p q i

-- p (b + x q) is b p + x (p q)
product_more : (p : Polynomial) (b : Bool) (q : Polynomial) (i : ℕ) → coefficient (product p (b ∷ q)) i ≡ xor (b && coefficient p i) (coefficient (false ∷ product p q) i)
product_more [] b q zero = sym (ap (λ x. xor x false) (and_false b))
product_more [] b q (suc i) = sym (ap (λ x. xor x false) (and_false b))
product_more (a ∷ p) b q zero = ap (λ x. xor x false) (and_comm a b)
product_more (a ∷ p) b q (suc i) =
    let scaled = map (λ c. a && c) q in
    sum_coefficient scaled (product p (b ∷ q)) i
    ∙ ap (xor (coefficient scaled i)) (product_more p b q i)
    ∙ xor_exchange (coefficient scaled i) (b && coefficient p i) (coefficient (false ∷ product p q) i)
    ∙ ap (xor (b && coefficient p i)) (sym (sum_coefficient scaled (false ∷ product p q) i))

-- x r, less m(x) where that has x^8: what r is, one place up
shifted : (a : Bool) (r : Byte) (j : ℕ) → xor (coefficient (coefficients (constant a ⊕ xtimes r)) (suc j)) (r.b7 && coefficient modulus (suc j)) ≡ coefficient (coefficients r) j
shifted a r zero = xor_back r.b0 r.b7
shifted a r (suc zero) = xor_stays r.b1 r.b7
shifted a r (suc (suc zero)) = xor_back r.b2 r.b7
shifted a r (suc (suc (suc zero))) = xor_back r.b3 r.b7
shifted a r (suc (suc (suc (suc zero)))) = xor_stays r.b4 r.b7
shifted a r (suc (suc (suc (suc (suc zero))))) = xor_stays r.b5 r.b7
shifted a r (suc (suc (suc (suc (suc (suc zero)))))) = xor_stays r.b6 r.b7
shifted a r (suc (suc (suc (suc (suc (suc (suc zero))))))) = and_true r.b7
shifted a r (suc (suc (suc (suc (suc (suc (suc (suc j)))))))) = and_false r.b7

quotient : Polynomial → Polynomial
quotient [] = []
quotient (a ∷ p) = (remainder p).b7 ∷ quotient p

divided_by : (p : Polynomial) (i : ℕ) → coefficient p i ≡ coefficient (sum (coefficients (remainder p)) (product modulus (quotient p))) i
unfolding quotient
divided_by [] i = sym (sum_coefficient (coefficients (constant false)) (product modulus []) i ∙ none i)
  where
    none : (i : ℕ) → xor (coefficient (coefficients (constant false)) i) (coefficient (product modulus []) i) ≡ false
    none zero = refl
    none (suc zero) = refl
    none (suc (suc zero)) = refl
    none (suc (suc (suc zero))) = refl
    none (suc (suc (suc (suc zero)))) = refl
    none (suc (suc (suc (suc (suc zero))))) = refl
    none (suc (suc (suc (suc (suc (suc zero)))))) = refl
    none (suc (suc (suc (suc (suc (suc (suc zero))))))) = refl
    none (suc (suc (suc (suc (suc (suc (suc (suc zero)))))))) = refl
    none (suc (suc (suc (suc (suc (suc (suc (suc (suc i))))))))) = refl
divided_by (a ∷ p) zero =
    sym (sum_coefficient (coefficients (remainder (a ∷ p))) (product modulus (quotient (a ∷ p))) zero
    ∙ ap (xor (xor a b)) (product_more modulus b (quotient p) zero ∙ xor_false (b && true)) ∙ xor_back a b)
  where
    b : Bool
    b = (remainder p).b7
divided_by (a ∷ p) (suc i) =
    let r = remainder p in
    let rest = coefficient (product modulus (quotient p)) i in
    let here = coefficient (coefficients (remainder (a ∷ p))) (suc i) in
    let over = r.b7 && coefficient modulus (suc i) in
    divided_by p i ∙ sum_coefficient (coefficients r) (product modulus (quotient p)) i
    ∙ ap (λ x. xor x rest) (sym (shifted a r i)) ∙ xor_assoc here over rest
    ∙ ap (xor here) (sym (product_more modulus r.b7 (quotient p) (suc i)))
    ∙ sym (sum_coefficient (coefficients (remainder (a ∷ p))) (product modulus (quotient (a ∷ p))) (suc i))

pub leaves : Leaves
leaves = record { left = left_over; divided = λ p. (quotient p, divided_by p) }
