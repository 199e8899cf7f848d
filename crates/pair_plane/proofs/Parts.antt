-- Quotients rounded up, and the parts that two weights make of a number, are no larger than the number.
use Rattle.std.proofs.Common.{◌≡◌, ℕ, suc, zero, ◌+◌, ◌≤◌, ⊎_elim, [], ◌∷◌, arith, ℤ, pos, negsuc, ◌+ℤ◌, ◌-ℤ◌, ◌*ℤ◌, ◌≤ℤ◌, ◌<ℤ◌, unsigned_abs}
use Rattle.std.proofs.lemmas.Int.{ints, by_lt_z}
use Rattle.std.proofs.Math.Nat.{div-le_self}
use Rattle.exact_algebra.specs.Numbers.{ceil}
use Rattle.exact_algebra.proofs.Order.{le_total, product_nonneg, product-le}
use Rattle.exact_algebra.proofs.Ring.{quotes, equal}
use Rattle.exact_algebra.proofs.Rounding.{ceil_ge, ceil_lt}
use Rattle.crowd_data.specs.Pairs.{part_of}

pub ceil_abs : (n d : ℤ) → pos 0 <ℤ d → unsigned_abs (ceil n d) ≤ unsigned_abs n
ceil_abs (pos zero) (pos d) h = omega (arith, ints, div-le_self 0 d)
ceil_abs (pos (suc n)) (pos d) h = omega (arith, ints, div-le_self n d)
ceil_abs (negsuc n) (pos d) h = omega (arith, ints, div-le_self (suc n) d)
ceil_abs n (negsuc d) h = absurd (omega (arith, ints))

-- ---- parts by weights

-- less than one factor more is no more
no_more : (a b s : ℤ) → pos 0 <ℤ s → (a *ℤ s) <ℤ (b *ℤ s +ℤ s) → a ≤ℤ b
no_more a b s some h = by_lt_z b a
    (λ less.
    let f : ((b +ℤ pos 1) *ℤ s) ≤ℤ (a *ℤ s) = product-le (b +ℤ pos 1) a s (omega (arith, ints)) (omega (arith, ints)) in
    let e : (b +ℤ pos 1) *ℤ s ≡ b *ℤ s +ℤ s = equal (b ∷ s ∷ []) (search quotes depth 30) tt in
    absurd (omega (arith, ints)))
    (λ h. h)

-- a part lies between nothing and the whole
abbrev IsPart : ℤ → ℤ → Type 0
IsPart g part = (pos 0 ≤ℤ g → (pos 0 ≤ℤ part) × (part ≤ℤ g)) × (g ≤ℤ pos 0 → (g ≤ℤ part) × (part ≤ℤ pos 0))

part_is : (g : ℤ) (a b : ℕ) → 1 ≤ b → IsPart g (part_of g a b)
part_is g a b some = by (part_of g a b) (ceil_ge (g *ℤ pos a) (pos (a + b)) s0) (ceil_lt (g *ℤ pos a) (pos (a + b)) s0)
  where
    s0 : pos 0 <ℤ pos (a + b)
    s0 = omega (arith, ints)

    spread : (g a b : ℤ) → g *ℤ (a +ℤ b) ≡ g *ℤ a +ℤ g *ℤ b
    spread g a b = equal (g ∷ a ∷ b ∷ []) (search quotes depth 30) tt

    split : g *ℤ pos (a + b) ≡ g *ℤ pos a +ℤ g *ℤ pos b
    split = spread g (pos a) (pos b)

    by : (c : ℤ) → (g *ℤ pos a) ≤ℤ (c *ℤ pos (a + b)) → (c *ℤ pos (a + b)) <ℤ (g *ℤ pos a +ℤ pos (a + b)) → IsPart g c
    by c reaches below = (
      λ h.
          let p : pos 0 ≤ℤ (g *ℤ pos a) = product_nonneg g (pos a) h (omega (arith, ints)) in
          let q : pos 0 ≤ℤ (g *ℤ pos b) = product_nonneg g (pos b) h (omega (arith, ints)) in
          (no_more (pos 0) c (pos (a + b)) s0 (omega (arith, ints)), no_more c g (pos (a + b)) s0 (omega (arith, ints))),
      λ h.
          let p : (g *ℤ pos a) ≤ℤ (pos 0 *ℤ pos a) = product-le g (pos 0) (pos a) (omega (arith, ints)) h in
          let q : (g *ℤ pos b) ≤ℤ (pos 0 *ℤ pos b) = product-le g (pos 0) (pos b) (omega (arith, ints)) h in
          (no_more g c (pos (a + b)) s0 (omega (arith, ints)), no_more c (pos 0) (pos (a + b)) s0 (omega (arith, ints))),
    )

pub part_abs : (g : ℤ) (a b : ℕ) → 1 ≤ b → unsigned_abs (part_of g a b) ≤ unsigned_abs g
part_abs g a b some = by (part_of g a b) (part_is g a b some)
  where
    by : (part : ℤ) → IsPart g part → unsigned_abs part ≤ unsigned_abs g
    by part is = ⊎_elim (λ h. let p = is.0 h in omega (arith, ints)) (λ h. let p = is.1 h in omega (arith, ints)) (le_total (pos 0) g)

-- and so is what is left
pub rest_abs : (g : ℤ) (a b : ℕ) → 1 ≤ b → unsigned_abs (g -ℤ part_of g a b) ≤ unsigned_abs g
rest_abs g a b some = by (part_of g a b) (part_is g a b some)
  where
    by : (part : ℤ) → IsPart g part → unsigned_abs (g -ℤ part) ≤ unsigned_abs g
    by part is = ⊎_elim (λ h. let p = is.0 h in omega (arith, ints)) (λ h. let p = is.1 h in omega (arith, ints)) (le_total (pos 0) g)

-- equal weights make halves
pub part_of-same : (g : ℤ) (a : ℕ) → 1 ≤ a → part_of g a a ≡ ceil g (pos 2)
part_of-same g a some =
    by (part_of g a a) (ceil g (pos 2)) (ceil_ge (g *ℤ pos a) (pos (a + a)) s0) (ceil_lt (g *ℤ pos a) (pos (a + a)) s0)
    (ceil_ge g (pos 2) (omega (arith, ints))) (ceil_lt g (pos 2) (omega (arith, ints)))
  where
    s0 : pos 0 <ℤ pos (a + a)
    s0 = omega (arith, ints)

    double : (c a : ℤ) → (c *ℤ pos 2) *ℤ a ≡ c *ℤ (a +ℤ a)
    double c a = equal (c ∷ a ∷ []) (search quotes depth 30) tt

    by : (d c : ℤ) → (g *ℤ pos a) ≤ℤ (d *ℤ pos (a + a)) → (d *ℤ pos (a + a)) <ℤ (g *ℤ pos a +ℤ pos (a + a)) → g ≤ℤ (c *ℤ pos 2) → (c *ℤ pos 2) <ℤ (g +ℤ pos 2) → d ≡ c
    by d c reaches below reach low =
        let twice : (c *ℤ pos 2) *ℤ pos a ≡ c *ℤ pos (a + a) = double c (pos a) in
        let more : (g +ℤ pos 1) *ℤ pos a ≡ g *ℤ pos a +ℤ pos a = equal (g ∷ pos a ∷ []) (search quotes depth 30) tt in
        let p : (g *ℤ pos a) ≤ℤ ((c *ℤ pos 2) *ℤ pos a) = product-le g (c *ℤ pos 2) (pos a) (omega (arith, ints)) reach in
        let q : ((c *ℤ pos 2) *ℤ pos a) ≤ℤ ((g +ℤ pos 1) *ℤ pos a) = product-le (c *ℤ pos 2) (g +ℤ pos 1) (pos a) (omega (arith, ints)) (omega (arith, ints)) in
        let up = no_more d c (pos (a + a)) s0 (omega (arith, ints)) in
        let down = no_more c d (pos (a + a)) s0 (omega (arith, ints)) in
        omega (arith, ints)
