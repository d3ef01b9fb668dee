use Rattle.p414_reader.proofs.rows.rows_of.Goals as goal

pub returns-in-Part-clause-rows : goal.returns-in-Part-clause-rows
returns-in-Part-clause-rows c = rw c.in-Part.is c.rows_of.ensures.rows

pub returns-in-Part-clause-otherwise : goal.returns-in-Part-clause-otherwise
returns-in-Part-clause-otherwise c = rw c.in-Part.is c.rows_of.ensures.otherwise

pub returns-in-Header-clause-rows : goal.returns-in-Header-clause-rows
returns-in-Header-clause-rows c = rw c.in-Header.is c.rows_of-in-Header.ensures.rows

pub returns-in-Header-clause-otherwise : goal.returns-in-Header-clause-otherwise
returns-in-Header-clause-otherwise c = rw c.in-Header.is c.rows_of-in-Header.ensures.otherwise

pub returns-in-Calculation-clause-rows : goal.returns-in-Calculation-clause-rows
returns-in-Calculation-clause-rows c = rw c.in-Calculation.is c.rows_of-in-Calculation.ensures.rows

pub returns-in-Calculation-clause-otherwise : goal.returns-in-Calculation-clause-otherwise
returns-in-Calculation-clause-otherwise c = rw c.in-Calculation.is c.rows_of-in-Calculation.ensures.otherwise

pub returns-in-State-clause-rows : goal.returns-in-State-clause-rows
returns-in-State-clause-rows c = rw c.in-State.is c.rows_of-in-State.ensures.rows

pub returns-in-State-clause-otherwise : goal.returns-in-State-clause-otherwise
returns-in-State-clause-otherwise c = rw c.in-State.is c.rows_of-in-State.ensures.otherwise

pub returns-in-Call-clause-rows : goal.returns-in-Call-clause-rows
returns-in-Call-clause-rows c = rw c.in-Call.is c.rows_of-in-Call.ensures.rows

pub returns-in-Call-clause-otherwise : goal.returns-in-Call-clause-otherwise
returns-in-Call-clause-otherwise c = rw c.in-Call.is c.rows_of-in-Call.ensures.otherwise

pub returns-in-Table-clause-rows : goal.returns-in-Table-clause-rows
returns-in-Table-clause-rows c = rw c.in-Table.is c.rows_of-in-Table.ensures.rows

pub returns-in-Table-clause-otherwise : goal.returns-in-Table-clause-otherwise
returns-in-Table-clause-otherwise c = rw c.in-Table.is c.rows_of-in-Table.ensures.otherwise

pub returns-in-Object-clause-rows : goal.returns-in-Object-clause-rows
returns-in-Object-clause-rows c = rw c.in-Object.is c.rows_of-in-Object.ensures.rows

pub returns-in-Object-clause-otherwise : goal.returns-in-Object-clause-otherwise
returns-in-Object-clause-otherwise c = rw c.in-Object.is c.rows_of-in-Object.ensures.otherwise

pub returns-in-Body-clause-rows : goal.returns-in-Body-clause-rows
returns-in-Body-clause-rows c = rw c.in-Body.is c.rows_of-in-Body.ensures.rows

pub returns-in-Body-clause-otherwise : goal.returns-in-Body-clause-otherwise
returns-in-Body-clause-otherwise c = rw c.in-Body.is c.rows_of-in-Body.ensures.otherwise
