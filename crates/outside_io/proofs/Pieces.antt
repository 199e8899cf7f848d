-- What a read takes from bytes, and what a write leaves of a piece.
use Rattle.std.proofs.Common.{◌≡◌, ◌∙◌, ◌<◌, ◌≤◌, ◌+◌, ◌-◌, [], ◌++◌, List, ℕ, length, take, drop, min, arith, append_assoc, take-append-drop, ap, sym, length-drop}
use Rattle.std.proofs.lemmas.Grind.{common_steps}
use Rattle.std.proofs.lemmas.List.{drop-drop, drop_all, take_at, length-take-le}

-- what is left after a write of n bytes is what stands behind them
pub rest_after : (n : ℕ) (piece front rest : List ℕ) → n ≤ length rest → piece ≡ front ++ rest
    → piece ≡ (front ++ take n rest) ++ take (length rest - n) (drop n rest)
rest_after n piece front rest h e = grind (arith, common_steps, append_assoc, take-append-drop)

-- n bytes that were copied from place `at` are the front of what was left there
pub front_read : (at n : ℕ) (bytes copied tail : List ℕ) → n ≤ length (drop at bytes)
    → copied ≡ take n (drop at bytes) → drop at bytes ≡ take n (copied ++ tail) ++ drop (at + n) bytes
front_read at n bytes copied tail h e =
    let len : length copied ≡ n = ap length e ∙ length-take-le n (drop at bytes) h in
    rw (take_at copied tail n len, e, ← drop-drop n at bytes) (sym (take-append-drop n (drop at bytes)))

-- a copy of no bytes into a buffer with room comes at the end alone
pub none_read : (at chunk n : ℕ) (bytes into : List ℕ) → at ≤ length bytes → 1 ≤ chunk
    → n ≡ min (min (length (drop at bytes)) (length into)) chunk → n ≡ 0 → 0 < length into
    → drop (at + n) bytes ≡ []
none_read at chunk n bytes into within gives count none room =
    let over : length bytes ≤ at + n = omega (arith, length-drop at bytes) in
    drop_all (at + n) bytes over
