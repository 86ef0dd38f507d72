use Rattle.report.proofs.name_of.Goals as goal

pub returns-in-Edg : goal.returns-in-Edg
returns-in-Edg c = rw c.in-Edg.is

pub returns-in-Edx : goal.returns-in-Edx
returns-in-Edx c = rw c.in-Edx.is

pub returns-in-Fac : goal.returns-in-Fac
returns-in-Fac c = rw c.in-Fac.is

pub returns-in-Rng : goal.returns-in-Rng
returns-in-Rng c = rw c.in-Rng.is

pub returns-in-Cnd : goal.returns-in-Cnd
returns-in-Cnd c = rw c.in-Cnd.is

pub returns-in-Cnx : goal.returns-in-Cnx
returns-in-Cnx c = rw c.in-Cnx.is
