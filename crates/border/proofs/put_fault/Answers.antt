-- `border::put_fault` meets its contract.
use Rattle.border.proofs.put_fault.Goals as goal

pub returns-in-A : goal.returns-in-A
returns-in-A c = rw c.in-A.is c.put_place.ensures

pub returns-in-B : goal.returns-in-B
returns-in-B c = rw c.in-B.is c.put_place-in-B.ensures

pub returns-in-C : goal.returns-in-C
returns-in-C c = rw c.in-C.is c.put_place-in-C.ensures

pub returns-in-D : goal.returns-in-D
returns-in-D c = rw c.in-D.is c.put_place-in-D.ensures

pub returns-in-E : goal.returns-in-E
returns-in-E c = rw c.in-E.is c.put_place-in-E.ensures
