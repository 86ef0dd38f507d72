-- A number written digit by digit: the only one, or the last one behind those of the tenth.
use mathlib.Core.Path.{◌≡◌, sym, ap, ◌∙◌}
use mathlib.Core.List.{List, [], ◌∷◌, ◌++◌}
use Prim.Native.Nat.{ℕ, ◌+◌, ◌/◌, ◌%◌, ◌^◌, ◌≤◌, ◌<◌}
use native.Mathlib.Omega.{arith}
use lib.ListN.{length, length-append}
use lib.Seq.{sets}
use Rattle.laws.proofs.PieceLaws.{sets_append}
use Rattle.report.specs.Text.{digit, most_digits, decimal}
use Rattle.report.proofs.DecimalLaws.{decimal_one, decimal_more, decimal_longer, decimal_short}

pub one_digit : (d e : List ℕ) (at n b r : ℕ) → n < 10 → b ≡ digit n → r ≡ at + 1 → e ≡ sets d at (b ∷ [])
    → ((r ≡ at + length (decimal n)) × (r ≤ at + most_digits)) × (e ≡ sets d at (decimal n))
one_digit d e at n b r h u p w = rw (decimal_one n h) ((p, omega arith), w ∙ ap (λ (k : ℕ). sets d at (k ∷ [])) u)

pub last_digit : (d f e : List ℕ) (at n next b r : ℕ) → 10 ≤ n → n < 10 ^ most_digits
    → next ≡ at + length (decimal (n / 10)) → f ≡ sets d at (decimal (n / 10))
    → b ≡ digit (n % 10) → r ≡ next + 1 → e ≡ sets f next (b ∷ [])
    → ((r ≡ at + length (decimal n)) × (r ≤ at + most_digits)) × (e ≡ sets d at (decimal n))
last_digit d f e at n next b r h v q w u p z =
    let l = decimal_longer n h v in (
      (omega arith, omega (arith, decimal_short n)),
      z
          ∙ ap (λ (k : ℕ). sets f next (k ∷ [])) u
          ∙ ap (λ (x : List ℕ). sets x next (digit (n % 10) ∷ [])) w
          ∙ ap (λ (k : ℕ). sets (sets d at (decimal (n / 10))) k (digit (n % 10) ∷ [])) q
          ∙ sym (sets_append (decimal (n / 10)) (digit (n % 10) ∷ []) d at)
          ∙ ap (λ (x : List ℕ). sets d at x) (sym (decimal_more n h v)),
    )

-- there is room for the last digit
pub last_inside : (at n next room : ℕ) → 10 ≤ n → n < 10 ^ most_digits → next ≡ at + length (decimal (n / 10))
    → at + most_digits ≤ room → next < room
last_inside at n next room h v q u = omega (arith, decimal_longer n h v, decimal_short n)

-- a number behind a text is one piece
pub named : (e text number e₁ e₂ : List ℕ) (at next r : ℕ) → next ≡ at + length text → e₁ ≡ sets e at text
    → (r ≡ next + length number) × (r ≤ next + most_digits) → e₂ ≡ sets e₁ next number
    → ((r ≡ at + length (text ++ number)) × (r ≤ at + (length text + most_digits))) × (e₂ ≡ sets e at (text ++ number))
named e text number e₁ e₂ at next r p q h w = (
  (simp length-append (omega (arith, p, h.0)), omega (arith, p, h.1)),
  w ∙ ap (λ (l : List ℕ). sets l next number) q ∙ ap (λ (k : ℕ). sets (sets e at text) k number) p ∙ sym (sets_append text number e at),
)
