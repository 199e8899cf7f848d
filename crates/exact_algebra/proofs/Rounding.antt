use Rattle.std.proofs.Common.{◌≡◌, ◌⊎◌, inl, inr, ⊎_elim, ℕ, zero, suc, ◌+◌, ◌-◌, ◌*◌, ◌<◌, ◌≤◌, Bool, true, false, cond, T, leb, leb→le, not, [], ◌∷◌, subst, sym, refl, arith, ℤ, pos, negsuc, neg_ℤ, ◌+ℤ◌, ◌*ℤ◌, ◌≤ℤ◌, ◌<ℤ◌, le_antisymm, mul-le-mul}
use Rattle.std.proofs.lemmas.Int.{ints}
use Rattle.std.proofs.lemmas.Bool.{cases_lt}
use lib.Dec.{nleb→lt}
use Rattle.exact_algebra.proofs.Ring.{equal, quotes}
use Rattle.exact_algebra.specs.Numbers.{floor, ceil, first_root, ceil_root, floor_root}

-- floor n d is the one whole number q with q d ≤ n < q d + d
pub floor_le : (n d : ℤ) → pos 0 <ℤ d → (floor n d *ℤ d) ≤ℤ n
floor_le (pos n) (pos d) h = omega (arith, ints)
floor_le (negsuc n) (pos d) h = omega (arith, ints)
floor_le n (negsuc d) h = absurd (omega (arith, ints))

pub floor_gt : (n d : ℤ) → pos 0 <ℤ d → n <ℤ (floor n d *ℤ d +ℤ d)
floor_gt (pos n) (pos d) h = omega (arith, ints)
floor_gt (negsuc n) (pos d) h = omega (arith, ints)
floor_gt n (negsuc d) h = absurd (omega (arith, ints))

ceil-mul : (n d : ℤ) → ceil n d *ℤ d ≡ neg_ℤ (floor (neg_ℤ n) d *ℤ d)
ceil-mul n d = equal (floor (neg_ℤ n) d ∷ d ∷ []) (search quotes depth 30) tt

pub ceil_ge : (n d : ℤ) → pos 0 <ℤ d → n ≤ℤ (ceil n d *ℤ d)
ceil_ge n d h = let f = floor_le (neg_ℤ n) d h in let e = ceil-mul n d in omega (arith, ints)

pub ceil_lt : (n d : ℤ) → pos 0 <ℤ d → (ceil n d *ℤ d) <ℤ (n +ℤ d)
ceil_lt n d h = let f = floor_gt (neg_ℤ n) d h in let e = ceil-mul n d in omega (arith, ints)

-- ---- the root

abbrev IsFirst : ℕ → ℕ → ℕ → Type 0
IsFirst most m r = (r ≤ most) × ((j : ℕ) → j < r → j * j < m) × ((m ≤ r * r) ⊎ (r ≡ most))

first_root_is : (most m : ℕ) → IsFirst most m (first_root most m)
unfolding first_root
first_root_is zero m = (omega arith, λ j h. absurd (omega arith), inr refl)
first_root_is (suc most) m = by (first_root most m) (first_root_is most m) (leb m (first_root most m * first_root most m)) refl
  where
    by : (r : ℕ) → IsFirst most m r → (b : Bool) → leb m (r * r) ≡ b → IsFirst (suc most) m (cond b r (suc most))
    by r h true e = (omega (arith, h.0), h.1, inl (leb→le m (r * r) (subst T (sym e) tt)))
    by r h false e =
        let less : r * r < m = nleb→lt m (r * r) (subst (λ (t : Bool). T (not t)) (sym e) tt) in
        let last : r ≡ most = ⊎_elim (λ k. absurd (omega arith)) (λ k. k) h.2 in
        (omega arith, λ j k. ⊎_elim (λ p. h.1 j p) (λ p. let q : j ≡ r = omega arith in subst (λ x. x * x < m) (sym q) less) (cases_lt j r), inr refl)

pub ceil_root_reaches : (m : ℕ) → m ≤ ceil_root m * ceil_root m
unfolding ceil_root
ceil_root_reaches m = ⊎_elim (λ h. h) (λ e. subst (λ r. m ≤ r * r) (sym e) (square m)) (first_root_is m m).2
  where
    square : (m : ℕ) → m ≤ m * m
    square zero = omega arith
    square (suc m) = omega arith

pub ceil_root_first : (m j : ℕ) → j < ceil_root m → j * j < m
unfolding ceil_root
ceil_root_first m j h = (first_root_is m m).1 j h

-- the root, known by what is told of it
pub ceil_root_is : (m r : ℕ) → m ≤ r * r → ((j : ℕ) → j < r → j * j < m) → ceil_root m ≡ r
ceil_root_is m r h k = le_antisymm
    (⊎_elim (λ p. absurd (omega (arith, ceil_root_first m r p))) (λ p. p) (cases_lt r (ceil_root m)))
    (⊎_elim (λ p. absurd (omega (arith, k (ceil_root m) p, ceil_root_reaches m))) (λ p. p) (cases_lt (ceil_root m) r))

-- ---- the root rounded down

-- a root, by two squares
pub ceil_root_between : (m r : ℕ) → m ≤ r * r → (r - 1) * (r - 1) < m → ceil_root m ≡ r
ceil_root_between m r h k = ceil_root_is m r h (λ j l. let p : j ≤ r - 1 = omega arith in omega (arith, mul-le-mul p p))

pub floor_root_le : (m : ℕ) → floor_root m * floor_root m ≤ m
floor_root_le m = by (ceil_root (m + 1)) (ceil_root_reaches (m + 1)) (ceil_root_first (m + 1))
  where
    by : (r : ℕ) → m + 1 ≤ r * r → ((j : ℕ) → j < r → j * j < m + 1) → (r - 1) * (r - 1) ≤ m
    by zero h k = absurd (omega (arith, h))
    by (suc r) h k = let e : suc r - 1 ≡ r = omega arith in rw e (omega (arith, k r (omega arith)))

pub floor_root_gt : (m : ℕ) → m < (floor_root m + 1) * (floor_root m + 1)
floor_root_gt m = by (ceil_root (m + 1)) (ceil_root_reaches (m + 1))
  where
    by : (r : ℕ) → m + 1 ≤ r * r → m < (r - 1 + 1) * (r - 1 + 1)
    by zero h = absurd (omega (arith, h))
    by (suc r) h = let e : suc r - 1 + 1 ≡ suc r = omega arith in rw e (omega (arith, h))

-- the root, known by what is told of it
pub floor_root_is : (m r : ℕ) → r * r ≤ m → m < (r + 1) * (r + 1) → floor_root m ≡ r
floor_root_is m r h k =
    let e : ceil_root (m + 1) ≡ r + 1 = ceil_root_is (m + 1) (r + 1) (omega (arith, k)) (λ j l. let p : j ≤ r = omega arith in omega (arith, mul-le-mul p p)) in
    omega (arith, e)
