-- The number itself gets smaller: a tenth of it is written before its last digit.
use Rattle.report.proofs.+put_number.Given as goal

abbrev pub decreases-put_number : goal.decreases-put_number
decreases-put_number l = l.n
