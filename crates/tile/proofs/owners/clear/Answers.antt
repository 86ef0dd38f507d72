-- `tile::owners::clear` meets its contract: what is filled is the front, and the others are as they were.
use Rattle.std.proofs.Common.{◌≡◌, refl, sym, ap, ℕ, zero, suc, ◌-◌, ◌≤◌, List, [], ◌∷◌, ◌++◌, length, take, drop, replicate, length-take, arith}
use Rattle.laws.specs.Buffer.{listed, front}
use Rattle.laws.specs.Marks.{zeros}
use Rattle.tile.proofs.owners.clear.Goals as goal

one_more : (x n : ℕ) → replicate n x ++ (x ∷ []) ≡ x ∷ replicate n x
one_more x zero = refl
one_more x (suc n) = ap (λ (l : List ℕ). x ∷ l) (one_more x n)

listed_zeros : (n : ℕ) → replicate n 0 ≡ listed zeros n
listed_zeros zero = refl
listed_zeros (suc n) = rw (← listed_zeros n) (sym (one_more 0 n))

filled : (n : ℕ) (d m : List ℕ) → n ≤ length d → m ≡ replicate (length (take (n - 0) d)) 0 → m ++ drop (n - 0) d ≡ front zeros n d
filled n d m h e =
    let z : n - 0 ≡ n = omega arith in
    let l : length (take (n - 0) d) ≡ n = simp length-take (omega arith) in
    rw (e, l, z, listed_zeros n)

pub returns : goal.returns
returns c = filled c.args.n c.args.marks.now c.fill.new.self c.requires (c.fill.ensures.after (λ y e. e))
