-- Numbers stored in front of zeros: every entry is theirs, and 0 behind them. Assumes nothing.
use Rattle.std.specs.Prelude.{ℕ, ◌+◌, ◌-◌, ◌≤◌, ◌<◌, ◌≡◌, List, ◌++◌, length, drop, replicate, ℤ, pos}
use Rattle.std.proofs.Common.{ap, ◌∙◌, arith, zero-add, get_or-append-add, get_or-drop}
use Rattle.std.proofs.Math.Path.{fun_ext}
use Rattle.std.proofs.Math.Decide.{dec_lt}
use Rattle.std.proofs.lemmas.List.{length-replicate, get_or-replicate}
use Rattle.std.proofs.Math.ListN.{get_or-append, get_or-eq_default}
use Rattle.std.proofs.lemmas.List.Edits.{sets, sets-eq}
use Rattle.laws.specs.Lists.{at}

-- an entry of zeros
zero-at : (m i : ℕ) → at (replicate m (pos 0)) i ≡ pos 0
zero-at m i = go (dec_lt i m)
  where
    go : Dec (i < m) → at (replicate m (pos 0)) i ≡ pos 0
    go (yes h) = get_or-replicate m i (pos 0) (pos 0) h
    go (no h) = get_or-eq_default (replicate m (pos 0)) (pos 0) (omega (arith, length-replicate m (pos 0)))

module _ (xs : List ℤ) (m : ℕ) (room : length xs ≤ m) where
  abbrev stored : List ℤ
  stored = sets (replicate m (pos 0)) 0 xs

  seam : stored ≡ xs ++ drop (length xs) (replicate m (pos 0))
  seam =
      sets-eq xs (replicate m (pos 0)) 0 (omega (arith, length-replicate m (pos 0)))
      ∙ ap (λ (k : ℕ). xs ++ drop k (replicate m (pos 0))) (zero-add (length xs))

  stored-entry : (i : ℕ) → at stored i ≡ at xs i
  stored-entry i = ap (λ (l : List ℤ). at l i) seam ∙ go (dec_lt i (length xs))
    where
      go : Dec (i < length xs) → at (xs ++ drop (length xs) (replicate m (pos 0))) i ≡ at xs i
      go (yes h) = get_or-append xs (drop (length xs) (replicate m (pos 0))) (pos 0) i h
      go (no h) =
          let k = i - length xs in
          let e : i ≡ length xs + k = omega arith in
          let z : at xs i ≡ pos 0 = get_or-eq_default xs (pos 0) (omega arith) in
          rw z (ap (at (xs ++ drop (length xs) (replicate m (pos 0)))) e ∙ get_or-append-add xs (drop (length xs) (replicate m (pos 0))) k (pos 0)
          ∙ get_or-drop (length xs) (replicate m (pos 0)) k (pos 0) ∙ zero-at m (length xs + k))

  -- as functions of the place
  pub stored_at : ◌≡◌ {A = ℕ → ℤ} (λ i. at stored i) (λ i. at xs i)
  stored_at = fun_ext stored-entry
