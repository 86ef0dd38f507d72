-- "The program reads edg, edx, fac, rng, cnd (and cnx if K occurs) from its directory, each at most 65,536 bytes"
use Rattle.std.specs.Prelude.{Bool, cond, List, [], ℕ, max, ltb, length, false, Option, Some, None, Result, Ok, Err}
use Rattle.laws.specs.Lowest.{lowest}
use Rattle.field.specs.Fields.{is_triplet}
use Rattle.refusal.specs.declared.Refusal.{Refusal}
use Rattle.header.specs.declared.Header.{Header}
use Rattle.header.specs.declared.Layout.{Layout}
use Rattle.header.specs.Layouts.{header_of}
use Rattle.table.specs.Rows.{column_at, columns_of}
use Rattle.limits.specs.Limits.{most_bytes}
use Rattle.load.specs.Sources.{Files, files}
use Rattle.report.specs.declared.FileName.{FileName}
use Rattle.report.specs.declared.FileName.TheVariants.{Edg, Edx, Fac, Rng, Cnd, Cnx}
use Rattle.directory.specs.declared.Sizes.{Sizes}

-- the bytes that are lent of each file; "A file that cannot be read counts as empty."
pub record Directory : Type 0 where
  pub edg : List ℕ
  pub edx : List ℕ
  pub fac : List ℕ
  pub rng : List ℕ
  pub cnd : List ℕ
  pub cnx : List ℕ

abbrev pub directory : List ℕ → List ℕ → List ℕ → List ℕ → List ℕ → List ℕ → Directory
directory edg edx fac rng cnd cnx = record { edg = edg; edx = edx; fac = fac; rng = rng; cnd = cnd; cnx = cnx }

-- "cnx if K occurs": any column of cnd, its header being accepted, is a triplet. (A refused header has no columns.)
abbrev pub triplet_column : Layout → ℕ → Bool
triplet_column l k = is_triplet (column_at l k).kind

unfoldable pub has_triplet : Layout → Bool
has_triplet l = ltb 0 (lowest (triplet_column l) (columns_of l))

abbrev pub head_shows_triplet : Result Header Refusal → Bool
head_shows_triplet (Ok head) = has_triplet head.layout
head_shows_triplet (Err q) = false

unfoldable pub shows_triplet : List ℕ → Bool
shows_triplet cnd = head_shows_triplet (header_of cnd)

-- "cnx if K occurs"
abbrev pub cnx_read : Directory → Bool
cnx_read d = shows_triplet d.cnd

-- the tables and their indexes: fac and rng have none, cnd has cnx if K occurs
unfoldable pub files_read : Directory → Files
files_read d = files d.edg d.edx d.fac [] d.rng [] d.cnd (cond (cnx_read d) d.cnx [])

-- the size of each file: what it is said to have, and never less than what is lent of it
unfoldable pub sizes_taken : Sizes → Directory → Sizes
sizes_taken z d =
    record {
      edg = max z.edg (length d.edg);
      edx = max z.edx (length d.edx);
      fac = max z.fac (length d.fac);
      rng = max z.rng (length d.rng);
      cnd = max z.cnd (length d.cnd);
      cnx = max z.cnx (length d.cnx);
    }

-- the first file that is at fault, if any
abbrev pub AtFault : Type 0
AtFault = Option FileName

-- "Larger is 15: sizes first, in that order (cnx's once cnd's header is accepted and shows K)"
unfoldable pub too_large : Sizes → Bool → AtFault
too_large z cnx_read =
    cond (ltb most_bytes z.edg) (Some Edg)
    (cond (ltb most_bytes z.edx) (Some Edx)
    (cond (ltb most_bytes z.fac) (Some Fac)
    (cond (ltb most_bytes z.rng) (Some Rng)
    (cond (ltb most_bytes z.cnd) (Some Cnd)
    (cond cnx_read (cond (ltb most_bytes z.cnx) (Some Cnx) None) None)))))
