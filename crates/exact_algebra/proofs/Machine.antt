-- Sums and products as code computes them, each step read back from its bits: no step overflows where the numbers are
-- small, and the result is the polynomial.
use Rattle.std.proofs.Common.{◌≡◌, ℕ, zero, suc, ◌+◌, ◌*◌, ◌^◌, ◌<◌, ◌≤◌, refl, sym, ap, subst, ◌∙◌, arith, Bool, true, ◌&&◌, List, [], ◌∷◌, ltb, ltb→lt, T, ℤ, pos, ◌+ℤ◌, ◌*ℤ◌, neg_ℤ, unsigned_abs, to_z, of_z, FitsSigned, to_z-of_z, mul-le-mul}
use Rattle.std.specs.Int.{Width, w64, w128}
use Rattle.std.proofs.lemmas.Int.{ints, unsigned_abs-mul, fits_signed_from_abs}
use mir.Val.{hbits}
use Rattle.exact_algebra.proofs.Ring.{Term, var, num, ◌⊕◌, ◌⊗◌, opposite, meaning, at, vanishes, poly, ring, and_parts, Placed, here, there}

pub data Code : Type 0 where
  input : ℕ → Code
  literal : ℤ → Code
  sum : Code → Code → Code
  product : Code → Code → Code
  negated : Code → Code
  back : Width → Code → Code

abbrev pub result : List ℤ → Code → ℤ
result e (input n) = at e n
result e (literal z) = z
result e (sum a b) = result e a +ℤ result e b
result e (product a b) = result e a *ℤ result e b
result e (negated a) = neg_ℤ (result e a)
result e (back w a) = to_z w (of_z w (result e a))

abbrev pub exact : Code → Term
exact (input n) = var n
exact (literal z) = num z
exact (sum a b) = exact a ⊕ exact b
exact (product a b) = exact a ⊗ exact b
exact (negated a) = opposite (exact a)
exact (back w a) = exact a

abbrev pub limit : List ℕ → ℕ → ℕ
limit [] n = 0
limit (b ∷ bs) zero = b
limit (b ∷ bs) (suc n) = limit bs n

abbrev pub size : List ℕ → Code → ℕ
size bs (input n) = limit bs n
size bs (literal z) = unsigned_abs z
size bs (sum a b) = size bs a + size bs b
size bs (product a b) = size bs a * size bs b
size bs (negated a) = size bs a
size bs (back w a) = size bs a

abbrev pub is_safe : List ℕ → Code → Bool
is_safe bs (input n) = true
is_safe bs (literal z) = true
is_safe bs (sum a b) = is_safe bs a && is_safe bs b
is_safe bs (product a b) = is_safe bs a && is_safe bs b
is_safe bs (negated a) = is_safe bs a
is_safe bs (back w a) = ltb (size bs a) (2 ^ hbits w) && is_safe bs a

-- each number is at most its limit in size
abbrev pub Within : List ℤ → List ℕ → Type 0
Within [] bs = Unit {0}
Within (x ∷ e) [] = ⊥
Within (x ∷ e) (b ∷ bs) = (unsigned_abs x ≤ b) × Within e bs

at-within : (e : List ℤ) (bs : List ℕ) (n : ℕ) → Within e bs → unsigned_abs (at e n) ≤ limit bs n
at-within [] bs n w = omega arith
at-within (x ∷ e) [] n w = absurd w
at-within (x ∷ e) (b ∷ bs) zero w = w.0
at-within (x ∷ e) (b ∷ bs) (suc n) w = at-within e bs n w.1

abs-sum : (a b : ℤ) (m n : ℕ) → unsigned_abs a ≤ m → unsigned_abs b ≤ n → unsigned_abs (a +ℤ b) ≤ m + n
abs-sum a b m n h k = omega (arith, ints)

abs-neg : (a : ℤ) (m : ℕ) → unsigned_abs a ≤ m → unsigned_abs (neg_ℤ a) ≤ m
abs-neg a m h = omega (arith, ints)

pub abs-product : (a b : ℤ) (m n : ℕ) → unsigned_abs a ≤ m → unsigned_abs b ≤ n → unsigned_abs (a *ℤ b) ≤ m * n
abs-product a b m n h k = rw (unsigned_abs-mul a b) (mul-le-mul h k)

module _ (e : List ℤ) (bs : List ℕ) (w : Within e bs) where
  size_is : (a : Code) → unsigned_abs (meaning e (exact a)) ≤ size bs a
  size_is (input n) = at-within e bs n w
  size_is (literal z) = omega arith
  size_is (sum a b) = abs-sum (meaning e (exact a)) (meaning e (exact b)) (size bs a) (size bs b) (size_is a) (size_is b)
  size_is (product a b) = abs-product (meaning e (exact a)) (meaning e (exact b)) (size bs a) (size bs b) (size_is a) (size_is b)
  size_is (negated a) = abs-neg (meaning e (exact a)) (size bs a) (size_is a)
  size_is (back v a) = size_is a

  result_is : (a : Code) → T (is_safe bs a) → result e a ≡ meaning e (exact a)
  result_is (input n) t = refl
  result_is (literal z) t = refl
  result_is (sum a b) t = let h = and_parts (is_safe bs a) (is_safe bs b) t in λ i. result_is a h.0 i +ℤ result_is b h.1 i
  result_is (product a b) t = let h = and_parts (is_safe bs a) (is_safe bs b) t in λ i. result_is a h.0 i *ℤ result_is b h.1 i
  result_is (negated a) t = λ i. neg_ℤ (result_is a t i)
  result_is (back v a) t =
      let h = and_parts (ltb (size bs a) (2 ^ hbits v)) (is_safe bs a) t in
      let p : size bs a < 2 ^ hbits v = ltb→lt (size bs a) (2 ^ hbits v) h.0 in
      let q : unsigned_abs (meaning e (exact a)) ≤ size bs a = size_is a in
      ap (λ z. to_z v (of_z v z)) (result_is a h.1) ∙ to_z-of_z (fits_signed_from_abs v (meaning e (exact a)) (omega arith))

-- ---- what `search reads` reads off a number

pub record Read (e : List ℤ) (x : ℤ) : Type 0 where
  pub code : Code
  pub is : result e code ≡ x

abbrev pub read_var : (e : List ℤ) (x : ℤ) → Placed e x → Read e x
read_var e x p = record { code = input p.place; is = p.is }

abbrev pub read_0 : (e : List ℤ) → Read e (pos 0)
read_0 e = record { code = literal (pos 0); is = refl }

abbrev pub read_1 : (e : List ℤ) → Read e (pos 1)
read_1 e = record { code = literal (pos 1); is = refl }

abbrev pub read_2 : (e : List ℤ) → Read e (pos 2)
read_2 e = record { code = literal (pos 2); is = refl }

abbrev pub read_3 : (e : List ℤ) → Read e (pos 3)
read_3 e = record { code = literal (pos 3); is = refl }

abbrev pub read_4 : (e : List ℤ) → Read e (pos 4)
read_4 e = record { code = literal (pos 4); is = refl }

abbrev pub read_sum : (e : List ℤ) (x y : ℤ) → Read e x → Read e y → Read e (x +ℤ y)
read_sum e x y p q = record { code = sum p.code q.code; is = λ i. p.is i +ℤ q.is i }

abbrev pub read_neg : (e : List ℤ) (x : ℤ) → Read e x → Read e (neg_ℤ x)
read_neg e x p = record { code = negated p.code; is = λ i. neg_ℤ (p.is i) }

abbrev pub read_product : (e : List ℤ) (x y : ℤ) → Read e x → Read e y → Read e (x *ℤ y)
read_product e x y p q = record { code = product p.code q.code; is = λ i. p.is i *ℤ q.is i }

abbrev pub read_back64 : (e : List ℤ) (x : ℤ) → Read e x → Read e (to_z w64 (of_z w64 x))
read_back64 e x p = record { code = back w64 p.code; is = λ i. to_z w64 (of_z w64 (p.is i)) }

abbrev pub read_back128 : (e : List ℤ) (x : ℤ) → Read e x → Read e (to_z w128 (of_z w128 x))
read_back128 e x p = record { code = back w128 p.code; is = λ i. to_z w128 (of_z w128 (p.is i)) }

pub record BothRead (e : List ℤ) (x y : ℤ) : Type 0 where
  pub left : Read e x
  pub right : Read e y

abbrev pub read_both : (e : List ℤ) (x y : ℤ) → Read e x → Read e y → BothRead e x y
read_both e x y p q = record { left = p; right = q }

pub ruleset reads = (here, there, read_var, read_0, read_1, read_2, read_3, read_4, read_sum, read_neg, read_product, read_back64, read_back128, read_both)

-- the number fits w
pub fits : (e : List ℤ) (bs : List ℕ) (w : Width) {x : ℤ} → Within e bs → (r : Read e x) → T (ltb (size bs r.code) (2 ^ hbits w) && is_safe bs r.code) → FitsSigned w x
fits e bs w {x} h r t =
    let k = and_parts (ltb (size bs r.code) (2 ^ hbits w)) (is_safe bs r.code) t in
    let p : size bs r.code < 2 ^ hbits w = ltb→lt (size bs r.code) (2 ^ hbits w) k.0 in
    let q : unsigned_abs (meaning e (exact r.code)) ≤ size bs r.code = size_is e bs h r.code in
    let f : FitsSigned w (meaning e (exact r.code)) = fits_signed_from_abs w (meaning e (exact r.code)) (omega arith) in
    subst (FitsSigned w) (sym (result_is e bs h r.code k.1) ∙ r.is) f

-- no step of either overflows, and the two are the same polynomial
abbrev pub Computes : {e : List ℤ} {x y : ℤ} → List ℕ → BothRead e x y → Type 0
Computes bs b = T (is_safe bs b.left.code && (is_safe bs b.right.code && vanishes (poly (exact b.left.code ⊕ opposite (exact b.right.code)))))

pub computed : (e : List ℤ) (bs : List ℕ) {x y : ℤ} → Within e bs → (b : BothRead e x y) → Computes bs b → x ≡ y
computed e bs h b t =
    let k = and_parts (is_safe bs b.left.code) (is_safe bs b.right.code && vanishes (poly (exact b.left.code ⊕ opposite (exact b.right.code)))) t in
    let l = and_parts (is_safe bs b.right.code) (vanishes (poly (exact b.left.code ⊕ opposite (exact b.right.code)))) k.1 in
    sym b.left.is ∙ result_is e bs h b.left.code k.0 ∙ ring e (exact b.left.code) (exact b.right.code) l.1 ∙ sym (result_is e bs h b.right.code l.0) ∙ b.right.is

-- its size is below b
pub bounded : (e : List ℤ) (bs : List ℕ) (b : ℕ) (x : ℤ) → Within e bs → (r : Read e x) → T (ltb (size bs r.code) b && is_safe bs r.code) → unsigned_abs x < b
bounded e bs b x h r t =
    let k = and_parts (ltb (size bs r.code) b) (is_safe bs r.code) t in
    let p : size bs r.code < b = ltb→lt (size bs r.code) b k.0 in
    let q : unsigned_abs (meaning e (exact r.code)) ≤ size bs r.code = size_is e bs h r.code in
    let f : unsigned_abs (meaning e (exact r.code)) < b = omega arith in
    subst (λ z. unsigned_abs z < b) (sym (result_is e bs h r.code k.1) ∙ r.is) f
