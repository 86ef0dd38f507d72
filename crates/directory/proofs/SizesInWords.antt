-- "Larger is 15: sizes first, in that order": the file that is found too large is the first that is, and none is found exactly when none is.
use mathlib.Core.Path.{◌≡◌, refl, sym, ap, subst, ◌∙◌}
use mathlib.Core.Logic.{◌↔◌, by_cases}
use mathlib.Core.Bool.{Bool, false, cond, true≢false}
use Prim.Native.Nat.{ℕ, zero, suc, max, ◌<◌}
use native.Mathlib.Decide.{dec_lt}
use native.Mathlib.Nat.{le-max_left, le-max_right, max-le}
use native.Mathlib.Omega.{arith}
use lib.Dec.{ltb}
use lib.ListN.{length}
use Rattle.laws.proofs.LowestLaws.{bool_cases}
use Rattle.laws.proofs.TestLaws.{not_above}
use Rattle.std.proofs.Common.{Some, None}
use Rattle.directory.specs.Files.{AtFault}
use Rattle.report.specs.declared.FileName.{FileName}
use Rattle.report.specs.declared.FileName.TheVariants.{Edg, Edx, Fac, Rng, Cnd, Cnx}
use Rattle.directory.specs.declared.Sizes.{Sizes}
use Rattle.limits.specs.Limits.{most_bytes}
use Rattle.directory.specs.Files.{too_large}
use Rattle.directory.specs.Files.{Directory, cnx_read, sizes_taken}
use Rattle.directory.specs.Words.{size_said, bytes_lent, IsRead, rank, Fits, SizeRight, FirstTooLarge}

-- ---- the six files in their order
abbrev of_rank : ℕ → FileName
of_rank zero = Edg
of_rank (suc zero) = Edx
of_rank (suc (suc zero)) = Fac
of_rank (suc (suc (suc zero))) = Rng
of_rank (suc (suc (suc (suc zero)))) = Cnd
of_rank (suc (suc (suc (suc (suc n))))) = Cnx

of_rank_lem : (n : FileName) → of_rank (rank n) ≡ n
of_rank_lem Edg = refl
of_rank_lem Edx = refl
of_rank_lem Fac = refl
of_rank_lem Rng = refl
of_rank_lem Cnd = refl
of_rank_lem Cnx = refl

same_rank : (m n : FileName) → rank m ≡ rank n → m ≡ n
same_rank m n e = sym (of_rank_lem m) ∙ ap of_rank e ∙ of_rank_lem n

six : (n : FileName) → rank n < 6
six Edg = omega arith
six Edx = omega arith
six Fac = omega arith
six Rng = omega arith
six Cnd = omega arith
six Cnx = omega arith

module _ (z : Sizes) (d : Directory) where
  abbrev larger : FileName → Bool
  larger n = ltb most_bytes (max (size_said z n) (length (bytes_lent d n)))

  fits : (n : FileName) → (larger n ≡ false) ↔ Fits z d n
  fits n =
      let s = size_said z n in
      let l = length (bytes_lent d n) in
      let w = not_above most_bytes (max s l) in (
        λ e. record { said = omega (arith, w.0 e, le-max_left s l); lent = omega (arith, w.0 e, le-max_right s l) },
        λ f. w.1 (max-le f.said f.lent),
      )

  -- the files before the k-th are not too large
  abbrev Passed : ℕ → Type 0
  Passed k = (m : FileName) → rank m < k → SizeRight z d m

  passed_more : (n : FileName) → Passed (rank n) → SizeRight z d n → Passed (suc (rank n))
  passed_more n p f m h =
      by_cases (dec_lt (rank m) (rank n)) (λ l. p m l)
      (λ l. let q : rank n ≡ rank m = omega arith in subst (SizeRight z d) (same_rank n m q) f)

  -- what each answer says
  abbrev Judged : AtFault → Type 0
  Judged (Some n) = FirstTooLarge z d n
  Judged None = (n : FileName) → SizeRight z d n

  tested : (n : FileName) (rest : AtFault) → IsRead d n → Passed (rank n) → (Passed (suc (rank n)) → Judged rest)
      → Judged (cond (larger n) (Some n) rest)
  tested n rest r p go =
      bool_cases (larger n)
      (λ b. rw b (record { read = r; too_large = λ f. true≢false (sym b ∙ (fits n).1 f); earlier = p }))
      (λ b. rw b (go (passed_more n p (λ _. (fits n).0 b))))

  pub judged : Judged (too_large (sizes_taken z d) (cnx_read d))
  unfolding too_large sizes_taken
  judged =
      tested Edg _ tt (λ m h. absurd (omega arith))
      (λ p. tested Edx _ tt p
      (λ p. tested Fac _ tt p
      (λ p. tested Rng _ tt p
      (λ p. tested Cnd _ tt p
      (λ p. bool_cases (cnx_read d)
      (λ k. rw k (tested Cnx None k p (λ p n. p n (six n))))
      (λ k. rw k (λ n. passed_more Cnx p (λ r. absurd (true≢false (sym r ∙ k))) n (six n))))))))

  -- ---- only one answer fits the words
  first_only : (m n : FileName) → FirstTooLarge z d m → FirstTooLarge z d n → m ≡ n
  first_only m n a b =
      by_cases (dec_lt (rank m) (rank n)) (λ l. absurd (a.too_large (b.earlier m l a.read)))
      (λ l.
      by_cases (dec_lt (rank n) (rank m)) (λ k. absurd (b.too_large (a.earlier n k b.read)))
      (λ k. same_rank m n (omega arith)))

  fault_found : (n : FileName) → FirstTooLarge z d n → (x : AtFault) → Judged x → x ≡ Some n
  fault_found n a (Some m) b = ap Some (first_only m n b a)
  fault_found n a None b = absurd (a.too_large (b n a.read))

  none_found : ((n : FileName) → SizeRight z d n) → (x : AtFault) → Judged x → x ≡ None
  none_found a (Some m) b = absurd (b.too_large (a m b.read))
  none_found a None b = refl

  -- NO FILE IS FOUND TOO LARGE EXACTLY WHEN each that is read has at most 65,536 bytes
  pub sizes_exactly : (too_large (sizes_taken z d) (cnx_read d) ≡ None) ↔ ((n : FileName) → SizeRight z d n)
  sizes_exactly = (λ e. subst Judged e judged, λ a. none_found a _ judged)

  -- A FILE IS FOUND TOO LARGE EXACTLY WHEN it is the first that is
  pub size_exactly : (n : FileName) → (too_large (sizes_taken z d) (cnx_read d) ≡ Some n) ↔ FirstTooLarge z d n
  size_exactly n = (λ e. subst Judged e judged, λ a. fault_found n a _ judged)
