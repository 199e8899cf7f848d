-- Equations between polynomials over ℤ, decided by computation.
use Rattle.std.proofs.Common.{◌≡◌, ℕ, zero, suc, refl, sym, ap, subst, ◌∙◌, arith, Bool, true, false, cond, ◌&&◌, List, [], ◌∷◌, eqb, ltb, eqb→eq, T, ℤ, pos, negsuc, ◌+ℤ◌, ◌-ℤ◌, ◌*ℤ◌, neg_ℤ, ◌≤ℤ◌}
use Rattle.std.proofs.lemmas.Int.{ints}
use lib.IntN.{*ℤ_comm}
use Rattle.exact_algebra.proofs.Integers.{*ℤ_assoc, *ℤ-+ℤ, +ℤ-*ℤ, *ℤ_middle}

-- ---- what is written down

pub data Term : Type 0 where
  var : ℕ → Term
  num : ℤ → Term
  ◌⊕◌ : Term → Term → Term
  opposite : Term → Term
  ◌⊗◌ : Term → Term → Term

infixl 6 ◌⊕◌
infixl 7 ◌⊗◌
abbrev pub at : List ℤ → ℕ → ℤ
at [] n = pos 0
at (x ∷ xs) zero = x
at (x ∷ xs) (suc n) = at xs n

abbrev pub meaning : List ℤ → Term → ℤ
meaning e (var n) = at e n
meaning e (num z) = z
meaning e (a ⊕ b) = meaning e a +ℤ meaning e b
meaning e (opposite a) = neg_ℤ (meaning e a)
meaning e (a ⊗ b) = meaning e a *ℤ meaning e b

-- ---- sums of monomials

pub data Poly : Type 0 where
  none : Poly
  more : ℤ → List ℕ → Poly → Poly

abbrev pub product : List ℤ → List ℕ → ℤ
product e [] = pos 1
product e (v ∷ m) = at e v *ℤ product e m

abbrev pub value : List ℤ → Poly → ℤ
value e none = pos 0
value e (more c m p) = c *ℤ product e m +ℤ value e p

abbrev pub place : ℕ → List ℕ → List ℕ
place v [] = v ∷ []
place v (w ∷ m) = cond (ltb w v) (w ∷ place v m) (v ∷ w ∷ m)

abbrev pub merge : List ℕ → List ℕ → List ℕ
merge [] n = n
merge (v ∷ m) n = place v (merge m n)

abbrev pub same : List ℕ → List ℕ → Bool
same [] [] = true
same [] (b ∷ n) = false
same (a ∷ m) [] = false
same (a ∷ m) (b ∷ n) = eqb a b && same m n

abbrev pub put : ℤ → List ℕ → Poly → Poly
put c m none = more c m none
put c m (more d n p) = cond (same m n) (more (c +ℤ d) n p) (more d n (put c m p))

abbrev pub total : Poly → Poly → Poly
total none q = q
total (more c m p) q = put c m (total p q)

abbrev pub scaled : ℤ → List ℕ → Poly → Poly
scaled c m none = none
scaled c m (more d n p) = put (c *ℤ d) (merge m n) (scaled c m p)

abbrev pub times : Poly → Poly → Poly
times none q = none
times (more c m p) q = total (scaled c m q) (times p q)

abbrev pub poly : Term → Poly
poly (var n) = more (pos 1) (n ∷ []) none
poly (num z) = more z [] none
poly (a ⊕ b) = total (poly a) (poly b)
poly (opposite a) = scaled (negsuc 0) [] (poly a)
poly (a ⊗ b) = times (poly a) (poly b)

abbrev pub is_zero : ℤ → Bool
is_zero (pos zero) = true
is_zero (pos (suc n)) = false
is_zero (negsuc n) = false

abbrev pub vanishes : Poly → Bool
vanishes none = true
vanishes (more c m p) = is_zero c && vanishes p

-- ---- each step keeps the value

cond_same : {A : Type 0} (b : Bool) (x y : A) (P : A → Type 0) → P x → P y → P (cond b x y)
cond_same true x y P p q = p
cond_same false x y P p q = q

product-place : (e : List ℤ) (v : ℕ) (m : List ℕ) → product e (place v m) ≡ at e v *ℤ product e m
product-place e v [] = refl
product-place e v (w ∷ m) =
    cond_same (ltb w v) (w ∷ place v m) (v ∷ w ∷ m) (λ l. product e l ≡ at e v *ℤ (at e w *ℤ product e m))
    (ap (λ x. at e w *ℤ x) (product-place e v m) ∙ sym (*ℤ_assoc (at e w) (at e v) (product e m)) ∙ ap (λ x. x *ℤ product e m) (*ℤ_comm (at e w) (at e v)) ∙ *ℤ_assoc (at e v) (at e w) (product e m))
    refl

product-merge : (e : List ℤ) (m n : List ℕ) → product e (merge m n) ≡ product e m *ℤ product e n
product-merge e [] n = omega (arith, ints)
product-merge e (v ∷ m) n =
    product-place e v (merge m n) ∙ ap (λ x. at e v *ℤ x) (product-merge e m n) ∙ sym (*ℤ_assoc (at e v) (product e m) (product e n))

pub and_parts : (a b : Bool) → T (a && b) → T a × T b
and_parts true b t = (tt, t)
and_parts false b t = absurd t

same_is : (m n : List ℕ) → T (same m n) → m ≡ n
same_is [] [] t = refl
same_is [] (b ∷ n) t = absurd t
same_is (a ∷ m) [] t = absurd t
same_is (a ∷ m) (b ∷ n) t =
    let h = and_parts (eqb a b) (same m n) t in
    let p : a ≡ b = eqb→eq a b h.0 in
    let q : m ≡ n = same_is m n h.1 in
    λ i. p i ∷ q i

value-put : (e : List ℤ) (c : ℤ) (m : List ℕ) (p : Poly) → value e (put c m p) ≡ c *ℤ product e m +ℤ value e p
value-put e c m none = refl
value-put e c m (more d n p) = by (same m n) (same_is m n) (value-put e c m p)
  where
    by : (b : Bool) → (T b → m ≡ n) → value e (put c m p) ≡ c *ℤ product e m +ℤ value e p → value e (cond b (more (c +ℤ d) n p) (more d n (put c m p))) ≡ c *ℤ product e m +ℤ (d *ℤ product e n +ℤ value e p)
    by true f h =
        subst (λ k. (c +ℤ d) *ℤ product e n +ℤ value e p ≡ c *ℤ product e k +ℤ (d *ℤ product e n +ℤ value e p)) (sym (f tt))
        (omega (arith, ints, +ℤ-*ℤ c d (product e n)))
    by false f h = omega (arith, ints)

value-total : (e : List ℤ) (p q : Poly) → value e (total p q) ≡ value e p +ℤ value e q
value-total e none q = omega (arith, ints)
value-total e (more c m p) q = omega (arith, ints, value-put e c m (total p q), value-total e p q)

value-scaled : (e : List ℤ) (c : ℤ) (m : List ℕ) (p : Poly) → value e (scaled c m p) ≡ (c *ℤ product e m) *ℤ value e p
value-scaled e c m none = omega (arith, ints)
value-scaled e c m (more d n p) =
    value-put e (c *ℤ d) (merge m n) (scaled c m p)
    ∙ ap (λ x. (c *ℤ d) *ℤ x +ℤ value e (scaled c m p)) (product-merge e m n)
    ∙ ap (λ x. x +ℤ value e (scaled c m p)) (*ℤ_middle c d (product e m) (product e n))
    ∙ ap (λ x. (c *ℤ product e m) *ℤ (d *ℤ product e n) +ℤ x) (value-scaled e c m p)
    ∙ sym (*ℤ-+ℤ (c *ℤ product e m) (d *ℤ product e n) (value e p))

value-times : (e : List ℤ) (p q : Poly) → value e (times p q) ≡ value e p *ℤ value e q
value-times e none q = omega (arith, ints)
value-times e (more c m p) q =
    value-total e (scaled c m q) (times p q)
    ∙ (λ i. value-scaled e c m q i +ℤ value-times e p q i)
    ∙ sym (+ℤ-*ℤ (c *ℤ product e m) (value e p) (value e q))

value-poly : (e : List ℤ) (a : Term) → value e (poly a) ≡ meaning e a
value-poly e (var n) = omega (arith, ints)
value-poly e (num z) = omega (arith, ints)
value-poly e (a ⊕ b) = value-total e (poly a) (poly b) ∙ (λ i. value-poly e a i +ℤ value-poly e b i)
value-poly e (opposite a) = value-scaled e (negsuc 0) [] (poly a) ∙ negated (value e (poly a)) ∙ ap neg_ℤ (value-poly e a)
  where
    negated : (x : ℤ) → (negsuc 0 *ℤ pos 1) *ℤ x ≡ neg_ℤ x
    negated x = omega (arith, ints)
value-poly e (a ⊗ b) = value-times e (poly a) (poly b) ∙ (λ i. value-poly e a i *ℤ value-poly e b i)

zero_is : (z : ℤ) → T (is_zero z) → z ≡ pos 0
zero_is (pos zero) t = refl
zero_is (pos (suc n)) t = absurd t
zero_is (negsuc n) t = absurd t

value_vanishes : (e : List ℤ) (p : Poly) → T (vanishes p) → value e p ≡ pos 0
value_vanishes e none t = refl
value_vanishes e (more c m p) t =
    let h = and_parts (is_zero c) (vanishes p) t in
    ap (λ x. x *ℤ product e m +ℤ value e p) (zero_is c h.0) ∙ ap (λ x. pos 0 *ℤ product e m +ℤ x) (value_vanishes e p h.1) ∙ omega (arith, ints)

-- an equation between two terms holds wherever their difference comes to nothing
pub ring : (e : List ℤ) (a b : Term) → T (vanishes (poly (a ⊕ opposite b))) → meaning e a ≡ meaning e b
ring e a b t = balanced (meaning e a) (meaning e b) (sym (value-poly e (a ⊕ opposite b)) ∙ value_vanishes e (poly (a ⊕ opposite b)) t)
  where
    balanced : (x y : ℤ) → x +ℤ neg_ℤ y ≡ pos 0 → x ≡ y
    balanced x y h = omega (arith, ints)

-- ---- what `search quotes` reads off a number

pub record Quoted (e : List ℤ) (x : ℤ) : Type 0 where
  pub term : Term
  pub is : meaning e term ≡ x

pub record Placed (e : List ℤ) (x : ℤ) : Type 0 where
  pub place : ℕ
  pub is : at e place ≡ x

abbrev pub here : (e : List ℤ) (x : ℤ) → Placed (x ∷ e) x
here e x = record { place = 0; is = refl }

abbrev pub there : (e : List ℤ) (x y : ℤ) → Placed e x → Placed (y ∷ e) x
there e x y p = record { place = suc p.place; is = p.is }

abbrev pub quote_var : (e : List ℤ) (x : ℤ) → Placed e x → Quoted e x
quote_var e x p = record { term = var p.place; is = p.is }

-- small numerals alone: with every `pos n`, `search` would take a variable n for one
abbrev pub quote_num : (e : List ℤ) (n : ℕ) → Quoted e (pos n)
quote_num e n = record { term = num (pos n); is = refl }

abbrev pub quote_0 : (e : List ℤ) → Quoted e (pos 0)
quote_0 e = quote_num e 0

abbrev pub quote_1 : (e : List ℤ) → Quoted e (pos 1)
quote_1 e = quote_num e 1

abbrev pub quote_2 : (e : List ℤ) → Quoted e (pos 2)
quote_2 e = quote_num e 2

abbrev pub quote_3 : (e : List ℤ) → Quoted e (pos 3)
quote_3 e = quote_num e 3

abbrev pub quote_4 : (e : List ℤ) → Quoted e (pos 4)
quote_4 e = quote_num e 4

abbrev pub quote_sum : (e : List ℤ) (x y : ℤ) → Quoted e x → Quoted e y → Quoted e (x +ℤ y)
quote_sum e x y p q = record { term = p.term ⊕ q.term; is = λ i. p.is i +ℤ q.is i }

abbrev pub quote_neg : (e : List ℤ) (x : ℤ) → Quoted e x → Quoted e (neg_ℤ x)
quote_neg e x p = record { term = opposite p.term; is = λ i. neg_ℤ (p.is i) }

abbrev pub quote_product : (e : List ℤ) (x y : ℤ) → Quoted e x → Quoted e y → Quoted e (x *ℤ y)
quote_product e x y p q = record { term = p.term ⊗ q.term; is = λ i. p.is i *ℤ q.is i }

-- two numbers, both read
pub record Both (e : List ℤ) (x y : ℤ) : Type 0 where
  pub left : Quoted e x
  pub right : Quoted e y

abbrev pub quote_both : (e : List ℤ) (x y : ℤ) → Quoted e x → Quoted e y → Both e x y
quote_both e x y p q = record { left = p; right = q }

pub ruleset quotes = (here, there, quote_var, quote_0, quote_1, quote_2, quote_3, quote_4, quote_sum, quote_neg, quote_product, quote_both)

-- the two polynomials have the same normal form
abbrev pub Agree : {e : List ℤ} {x y : ℤ} → Both e x y → Type 0
Agree b = T (vanishes (poly (b.left.term ⊕ opposite b.right.term)))

-- x ≡ y, where both are polynomials in the numbers of e: `equal (a ∷ b ∷ []) (search quotes depth 30) tt`
pub equal : (e : List ℤ) {x y : ℤ} (b : Both e x y) → Agree b → x ≡ y
equal e b t = sym b.left.is ∙ ring e b.left.term b.right.term t ∙ b.right.is

-- x ≤ y, where y - x is the polynomial z, which is not negative
pub shown : (e : List ℤ) {x y z : ℤ} → pos 0 ≤ℤ z → (b : Both e (y -ℤ x) z) → Agree b → x ≤ℤ y
shown e {x} {y} {z} h b t = let d : y -ℤ x ≡ z = equal e b t in omega (arith, ints)
