-- The writer "changes no other byte": outside the written bytes the row is as it was, and as long.
use mathlib.Core.Path.{◌≡◌, refl, sym, ap, ◌∙◌}
use mathlib.Core.List.{List, ◌++◌}
use Prim.Native.Nat.{ℕ, ◌+◌, ◌≤◌, ◌<◌}
use native.Mathlib.Omega.{arith}
use lib.ListN.{length, get_or, take, drop, length-append}
use lib.Seq.{sets, length-sets}
use Rattle.std.specs.Prelude.{Ok, Err}
use Rattle.laws.proofs.LentLaws.{stored_run, sets_other}
use Rattle.number.specs.declared.Order.{Order}
use Rattle.number.proofs.NumberLaws.{length_bytes}
use Rattle.triplet.specs.declared.Ids.{Ids}
use Rattle.triplet.specs.Written.{Written, form, form_size, encoded, size_of, width_for, code_for, written_of, row_after}
use Rattle.triplet.proofs.WrittenExactly.{written_exactly}

-- a form has as many bytes as its codes say
pub length-form : (o : Order) (c₁ c₂ c₃ : ℕ) (t : Ids) → length (form o c₁ c₂ c₃ t) ≡ form_size c₁ c₂ c₃
unfolding form
length-form o c₁ c₂ c₃ t = simp (length-append, length_bytes) (omega arith)

pub length-encoded : (o : Order) (t : Ids) → length (encoded o t) ≡ size_of t
unfolding encoded size_of width_for
length-encoded o t = length-form o (code_for t.id) (code_for t.tile) (code_for t.other) t

-- the row afterwards is the row with those bytes stored
row_stored : (o : Order) (row : List ℕ) (at : ℕ) (t : Ids) (n : ℕ) → written_of (length row) at t ≡ Ok n
    → row_after (Ok n) o row at t ≡ sets row at (encoded o t)
row_stored o row at t n e =
    let f = (written_exactly (length row) at t n).0 e in
    let m = length-encoded o t in
    ap (λ (k : ℕ). take at row ++ (encoded o t ++ drop (at + k) row)) (sym m)
    ∙ sym (stored_run (encoded o t) row at (omega (arith, f.room, f.long)))

-- NO OTHER BYTE IS CHANGED, and none on a refusal
pub no_other_byte : (o : Order) (row : List ℕ) (at : ℕ) (t : Ids) (r : Written) → written_of (length row) at t ≡ r → (j : ℕ)
    → (at ≤ j → j < at + size_of t → ⊥) → get_or (row_after r o row at t) j 0 ≡ get_or row j 0
no_other_byte o row at t (Ok n) e j out =
    ap (λ (l : List ℕ). get_or l j 0) (row_stored o row at t n e) ∙ sets_other (encoded o t) row at j (rw (length-encoded o t) out)
no_other_byte o row at t (Err q) e j out = refl

pub same_length : (o : Order) (row : List ℕ) (at : ℕ) (t : Ids) (r : Written) → written_of (length row) at t ≡ r
    → length (row_after r o row at t) ≡ length row
same_length o row at t (Ok n) e = ap length (row_stored o row at t n e) ∙ length-sets row at (encoded o t)
same_length o row at t (Err q) e = refl
