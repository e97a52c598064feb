-- The worked scripts: their output by the definitions, computed from bytes to bytes by the reading functions.
use Rattle.std.specs.Prelude.{◌≡◌, refl, ℕ, List, [], ◌∷◌, ◌++◌, codes}
use Rattle.tql_spec.specs.Machine.{new_state}
use Rattle.tql_syntax_grammar.specs.ReadingRuns.{read_output}
use Rattle.tql_syntax_grammar.proofs.Unfolded.{reading}

-- the output of a script on a new state
abbrev prints : List ℕ → List ℕ
prints = read_output new_state

-- ---- common beginnings of scripts

-- a bitemporal table with one row
abbrev pub one_employee : List ℕ
one_employee =
    codes "CREATE TABLE emp (eno INTEGER, dept VARCHAR(10), estart DATE, eend DATE,\n"
    ++ codes "  s TIMESTAMP(12) GENERATED ALWAYS AS ROW START,\n  e TIMESTAMP(12) GENERATED ALWAYS AS ROW END,\n"
    ++ codes "  PERIOD FOR ep (estart, eend), PERIOD FOR SYSTEM_TIME (s, e),\n"
    ++ codes "  PRIMARY KEY (eno, ep WITHOUT OVERLAPS)) WITH SYSTEM VERSIONING;\n"
    ++ codes "AT TIMESTAMP '2011-01-01 00:00:00';\n"
    ++ codes "INSERT INTO emp VALUES (1, 'A', DATE '2011-01-01', DATE '2011-12-31');\n"

-- the same without a key
abbrev pub no_key : List ℕ
no_key =
    codes "CREATE TABLE emp (eno INTEGER, dept VARCHAR(10), estart DATE, eend DATE,\n"
    ++ codes "  s TIMESTAMP(12) GENERATED ALWAYS AS ROW START,\n  e TIMESTAMP(12) GENERATED ALWAYS AS ROW END,\n"
    ++ codes "  PERIOD FOR ep (estart, eend), PERIOD FOR SYSTEM_TIME (s, e)) WITH SYSTEM VERSIONING;\n"
    ++ codes "AT TIMESTAMP '2011-01-01 00:00:00';\n"
    ++ codes "INSERT INTO emp VALUES (1, 'A', DATE '2011-01-01', DATE '2011-12-31');\n"

-- a system-versioned table without rows
abbrev pub empty_log : List ℕ
empty_log =
    codes "CREATE TABLE log (x INTEGER, s TIMESTAMP GENERATED ALWAYS AS ROW START,\n"
    ++ codes "  e TIMESTAMP GENERATED ALWAYS AS ROW END,\n"
    ++ codes "  PERIOD FOR SYSTEM_TIME (s, e)) WITH SYSTEM VERSIONING;\nAT TIMESTAMP '2011-01-01 00:00:00';\n"

-- a plain table with two rows
abbrev pub two_numbers : List ℕ
two_numbers =
    codes "CREATE TABLE t (x INTEGER); INSERT INTO t VALUES (1), (2);\n"

-- ---- scripts

-- a comment alone
nothing_said :
    prints (codes "-- nothing\n  ")
    ≡ codes ""
unfolding reading
nothing_said = refl

-- AS OF the moment of a commit sees the commit
as_of_a_commit :
    prints (one_employee
    ++ codes "SELECT eno, dept FROM emp FOR SYSTEM_TIME AS OF TIMESTAMP '2011-01-01 00:00:00';")
    ≡ codes "CREATE TABLE\nAT\nINSERT 1\nENO|DEPT\n1|'A'\n(1 rows)\n"
unfolding reading
as_of_a_commit = refl

-- AS OF the moment before it does not
as_of_before_it :
    prints (one_employee
    ++ codes "SELECT eno, dept FROM emp FOR SYSTEM_TIME AS OF TIMESTAMP '2010-12-31 23:59:59.999999';")
    ≡ codes "CREATE TABLE\nAT\nINSERT 1\nENO|DEPT\n(0 rows)\n"
unfolding reading
as_of_before_it = refl

-- a portion inside a period leaves the parts on both sides, and history keeps the old row
portion_inside :
    prints (one_employee
    ++ codes "AT TIMESTAMP '2011-02-01 00:00:00'; "
    ++ codes "UPDATE emp FOR PORTION OF ep FROM DATE '2011-03-01' TO DATE '2011-06-01' SET dept = 'B'; "
    ++ codes "SELECT * FROM emp; SELECT dept, e FROM emp FOR SYSTEM_TIME AS OF TIMESTAMP '2011-01-15 00:00:00';")
    ≡ codes "CREATE TABLE\nAT\nINSERT 1\nAT\nUPDATE 1\nENO|DEPT|ESTART|EEND|S|E\n"
    ++ codes "1|'A'|2011-01-01|2011-03-01|2011-02-01 00:00:00|9999-12-31 23:59:59.999999\n"
    ++ codes "1|'A'|2011-06-01|2011-12-31|2011-02-01 00:00:00|9999-12-31 23:59:59.999999\n"
    ++ codes "1|'B'|2011-03-01|2011-06-01|2011-02-01 00:00:00|9999-12-31 23:59:59.999999\n(3 rows)\nDEPT|E\n"
    ++ codes "'A'|2011-02-01 00:00:00\n(1 rows)\n"
unfolding reading
portion_inside = refl

-- a portion that ends where a period starts changes nothing
portion_beside :
    prints (one_employee
    ++ codes "UPDATE emp FOR PORTION OF ep FROM DATE '2010-06-01' TO DATE '2011-01-01' SET dept = 'B'; "
    ++ codes "SELECT s FROM emp;")
    ≡ codes "CREATE TABLE\nAT\nINSERT 1\nUPDATE 0\nS\n2011-01-01 00:00:00\n(1 rows)\n"
unfolding reading
portion_beside = refl

-- a portion that is wider than a period leaves no remaining parts
portion_around :
    prints (one_employee
    ++ codes "UPDATE emp FOR PORTION OF ep FROM DATE '2010-01-01' TO DATE '2012-06-01' SET dept = 'B'; "
    ++ codes "SELECT dept, estart, eend, s FROM emp;")
    ≡ codes "CREATE TABLE\nAT\nINSERT 1\nUPDATE 1\nDEPT|ESTART|EEND|S\n"
    ++ codes "'B'|2011-01-01|2011-12-31|2011-01-01 00:00:00.000001\n(1 rows)\n"
unfolding reading
portion_around = refl

-- two parts with a day between them do not meet
one_day_cut_out :
    prints (one_employee
    ++ codes "DELETE FROM emp FOR PORTION OF ep FROM DATE '2011-05-10' TO DATE '2011-05-11'; "
    ++ codes "SELECT estart, eend FROM emp; SELECT a.eno FROM emp a, emp b WHERE a.ep IMMEDIATELY PRECEDES b.ep;")
    ≡ codes "CREATE TABLE\nAT\nINSERT 1\nDELETE 1\nESTART|EEND\n2011-01-01|2011-05-10\n2011-05-11|2011-12-31\n"
    ++ codes "(2 rows)\nENO\n(0 rows)\n"
unfolding reading
one_day_cut_out = refl

-- each of several equal rows is found in a range
equal_rows :
    prints (empty_log
    ++ codes "INSERT INTO log VALUES (7), (7); AT TIMESTAMP '2011-01-03 00:00:00'; DELETE FROM log WHERE x = 7; "
    ++ codes "SELECT * FROM log FOR SYSTEM_TIME FROM TIMESTAMP '2011-01-01 00:00:00' TO TIMESTAMP '2011-02-01 "
    ++ codes "00:00:00';")
    ≡ codes "CREATE TABLE\nAT\nINSERT 2\nAT\nDELETE 2\nX|S|E\n7|2011-01-01 00:00:00|2011-01-03 00:00:00\n"
    ++ codes "7|2011-01-01 00:00:00|2011-01-03 00:00:00\n(2 rows)\n"
unfolding reading
equal_rows = refl

-- FROM TO excludes its end, BETWEEN includes it; the highest moment and a descending range find nothing
ends_of_ranges :
    prints (one_employee
    ++ codes "SELECT eno FROM emp FOR SYSTEM_TIME FROM TIMESTAMP '2010-01-01 00:00:00' TO TIMESTAMP '2011-01-01 "
    ++ codes "00:00:00'; "
    ++ codes "SELECT eno FROM emp FOR SYSTEM_TIME BETWEEN TIMESTAMP '2010-01-01 00:00:00' AND TIMESTAMP "
    ++ codes "'2011-01-01 00:00:00'; "
    ++ codes "SELECT eno FROM emp FOR SYSTEM_TIME AS OF TIMESTAMP '9999-12-31 23:59:59.999999'; "
    ++ codes "SELECT eno FROM emp FOR SYSTEM_TIME FROM TIMESTAMP '2011-06-01 00:00:00' TO TIMESTAMP '2011-05-01 "
    ++ codes "00:00:00';")
    ≡ codes "CREATE TABLE\nAT\nINSERT 1\nENO\n(0 rows)\nENO\n1\n(1 rows)\nENO\n(0 rows)\nENO\n(0 rows)\n"
unfolding reading
ends_of_ranges = refl

-- periods of one key may meet but not overlap
key_by_period :
    prints (one_employee
    ++ codes "INSERT INTO emp VALUES (1, 'C', DATE '2011-12-30', DATE '2012-06-01'); "
    ++ codes "INSERT INTO emp VALUES (1, 'C', DATE '2011-12-31', DATE '2012-06-01');")
    ≡ codes "CREATE TABLE\nAT\nINSERT 1\nREFUSED E35 duplicate key\nINSERT 1\n"
unfolding reading
key_by_period = refl

-- a reference has to be met at every point, and a referenced table cannot be dropped
parent_cut_short :
    prints (codes "CREATE TABLE dept (dno INTEGER, ds DATE, de DATE, PERIOD FOR dp (ds, de), PRIMARY KEY (dno, dp "
    ++ codes "WITHOUT OVERLAPS)); "
    ++ codes "CREATE TABLE job (jno INTEGER, dno INTEGER, js DATE, je DATE, PERIOD FOR jp (js, je), FOREIGN KEY "
    ++ codes "(dno, PERIOD jp) REFERENCES dept (dno, PERIOD dp)); "
    ++ codes "INSERT INTO dept VALUES (5, DATE '2011-01-01', DATE '2011-07-01'), (5, DATE '2011-07-01', DATE "
    ++ codes "'2012-01-01'); INSERT INTO job VALUES (1, 5, DATE '2011-03-01', DATE '2011-10-01'); "
    ++ codes "DELETE FROM dept FOR PORTION OF dp FROM DATE '2011-07-01' TO DATE '2011-07-02' WHERE dno = 5; "
    ++ codes "SELECT * FROM dept; DROP TABLE dept; DROP TABLE job; DROP TABLE dept;")
    ≡ codes "CREATE TABLE\nCREATE TABLE\nINSERT 2\nINSERT 1\nREFUSED E36 reference not met\nDNO|DS|DE\n"
    ++ codes "5|2011-01-01|2011-07-01\n5|2011-07-01|2012-01-01\n(2 rows)\nREFUSED E24 table is referenced\n"
    ++ codes "DROP TABLE\nDROP TABLE\n"
unfolding reading
parent_cut_short = refl

-- an unknown CHECK passes, and NOT of unknown is unknown
unknown_check :
    prints (codes "CREATE TABLE c (x INTEGER, CHECK (x > 0)); INSERT INTO c VALUES (NULL); INSERT INTO c VALUES (0); "
    ++ codes "SELECT x FROM c WHERE NOT (x > 0);")
    ≡ codes "CREATE TABLE\nINSERT 1\nREFUSED E34 check failed\nX\n(0 rows)\n"
unfolding reading
unknown_check = refl

-- a conjunct is evaluated only if those before it are true
conjuncts_from_the_left :
    prints (two_numbers
    ++ codes "SELECT x FROM t WHERE x * 9223372036854775807 > 0 AND x = 1; "
    ++ codes "SELECT x FROM t WHERE x = 1 AND x * 9223372036854775807 > 0;")
    ≡ codes "CREATE TABLE\nINSERT 2\nREFUSED E30 value out of range\nX\n1\n(1 rows)\n"
unfolding reading
conjuncts_from_the_left = refl

-- history has only the final state of a transaction
only_the_last :
    prints (empty_log
    ++ codes "START TRANSACTION; INSERT INTO log VALUES (1); UPDATE log SET x = 2; UPDATE log SET x = 3; "
    ++ codes "ROLLBACK; START TRANSACTION; INSERT INTO log VALUES (1); UPDATE log SET x = 2; "
    ++ codes "UPDATE log SET x = 3; COMMIT; "
    ++ codes "SELECT * FROM log FOR SYSTEM_TIME FROM TIMESTAMP '2000-01-01 00:00:00' TO TIMESTAMP '2020-01-01 "
    ++ codes "00:00:00';")
    ≡ codes "CREATE TABLE\nAT\nSTART TRANSACTION\nINSERT 1\nUPDATE 1\nUPDATE 1\nROLLBACK\nSTART TRANSACTION\n"
    ++ codes "INSERT 1\nUPDATE 1\nUPDATE 1\nCOMMIT\nX|S|E\n3|2011-01-01 00:00:00|9999-12-31 23:59:59.999999\n"
    ++ codes "(1 rows)\n"
unfolding reading
only_the_last = refl

-- AT needs a moment after the last commit
clock_does_not_stand :
    prints (one_employee
    ++ codes "AT TIMESTAMP '2011-01-01 00:00:00';")
    ≡ codes "CREATE TABLE\nAT\nINSERT 1\nREFUSED E41 moment not allowed\n"
unfolding reading
clock_does_not_stand = refl

-- the limits of integers and of the clock
last_moment :
    prints (two_numbers
    ++ codes "INSERT INTO t VALUES (9223372036854775808); INSERT INTO t VALUES (-9223372036854775808); "
    ++ codes "AT TIMESTAMP '9999-12-31 23:59:59.999999'; INSERT INTO t VALUES (3);")
    ≡ codes "CREATE TABLE\nINSERT 2\nREFUSED E30 value out of range\nINSERT 1\nAT\n"
    ++ codes "REFUSED E41 moment not allowed\n"
unfolding reading
last_moment = refl

-- a statement without its `;`
cut_off :
    prints (one_employee
    ++ codes "DELETE FROM emp WHERE eno = 1")
    ≡ codes "CREATE TABLE\nAT\nINSERT 1\nREFUSED E12 unfinished statement\n"
unfolding reading
cut_off = refl

-- AND binds closer than OR
and_before_or :
    prints (two_numbers
    ++ codes "SELECT x FROM t WHERE x = 1 OR x = 2 AND x = 3;")
    ≡ codes "CREATE TABLE\nINSERT 2\nX\n1\n(1 rows)\n"
unfolding reading
and_before_or = refl

-- NOT IN a list with NULL, and the sum of no values
null_in_a_list :
    prints (codes "CREATE TABLE u (x INTEGER, y INTEGER); INSERT INTO u VALUES (1, NULL); "
    ++ codes "SELECT x FROM u WHERE x NOT IN (2, y); SELECT COUNT(*), SUM(y) FROM u;")
    ≡ codes "CREATE TABLE\nINSERT 1\nX\n(0 rows)\nC1|C2\n1|NULL\n(1 rows)\n"
unfolding reading
null_in_a_list = refl

-- of several faults, the first in the order is reported
first_of_three_faults :
    prints (one_employee
    ++ codes "SELECT dept + 1, nocol FROM nosuch; SELECT dept + 1, nocol FROM emp; SELECT dept + 1 FROM emp;")
    ≡ codes "CREATE TABLE\nAT\nINSERT 1\nREFUSED E20 table unknown or already there\n"
    ++ codes "REFUSED E21 name unknown, ambiguous or repeated\nREFUSED E22 types do not fit\n"
unfolding reading
first_of_three_faults = refl

-- an INSERT with one wrong row inserts none
all_or_nothing :
    prints (one_employee
    ++ codes "INSERT INTO emp VALUES (2, 'B', DATE '2011-01-01', DATE '2011-02-01'), (1, 'C', DATE "
    ++ codes "'2010-05-01', DATE '2011-06-01'); SELECT eno FROM emp;")
    ≡ codes "CREATE TABLE\nAT\nINSERT 1\nREFUSED E35 duplicate key\nENO\n1\n(1 rows)\n"
unfolding reading
all_or_nothing = refl

-- a period does not contain its end
last_point :
    prints (one_employee
    ++ codes "SELECT eno FROM emp WHERE ep CONTAINS DATE '2011-12-31'; "
    ++ codes "SELECT eno FROM emp WHERE ep CONTAINS DATE '2011-12-30'; "
    ++ codes "SELECT eno FROM emp WHERE ep OVERLAPS PERIOD (DATE '2011-12-31', DATE '2012-01-01'); "
    ++ codes "SELECT eno FROM emp WHERE ep IMMEDIATELY PRECEDES PERIOD (DATE '2011-12-31', DATE '2012-01-01');")
    ≡ codes "CREATE TABLE\nAT\nINSERT 1\nENO\n(0 rows)\nENO\n1\n(1 rows)\nENO\n(0 rows)\nENO\n1\n(1 rows)\n"
unfolding reading
last_point = refl

-- LEFT JOIN with NULL; RIGHT JOIN is not in the language
left_join :
    prints (two_numbers
    ++ codes "CREATE TABLE v (y INTEGER); INSERT INTO v VALUES (1), (NULL), (1); "
    ++ codes "SELECT x, y FROM t LEFT JOIN v ON x = y; SELECT x, y FROM t RIGHT JOIN v ON x = y;")
    ≡ codes "CREATE TABLE\nINSERT 2\nCREATE TABLE\nINSERT 3\nX|Y\n1|1\n1|1\n2|NULL\n(3 rows)\n"
    ++ codes "REFUSED E10 not a statement\n"
unfolding reading
left_join = refl

-- an empty portion, a text that is too long, a generated column
refused_updates :
    prints (one_employee
    ++ codes "UPDATE emp FOR PORTION OF ep FROM DATE '2011-06-01' TO DATE '2011-06-01' SET dept = 'B'; "
    ++ codes "UPDATE emp SET dept = 'ABCDEFGHIJK'; UPDATE emp SET s = TIMESTAMP '2011-01-01 00:00:00';")
    ≡ codes "CREATE TABLE\nAT\nINSERT 1\nREFUSED E31 portion not rising\nREFUSED E30 value out of range\n"
    ++ codes "REFUSED E23 form not allowed here\n"
unfolding reading
refused_updates = refl

-- NULL values form one group
groups :
    prints (codes "CREATE TABLE g (k VARCHAR(2), n INTEGER); "
    ++ codes "INSERT INTO g VALUES ('a', 1), (NULL, 5), ('a', NULL), (NULL, 7); "
    ++ codes "SELECT k, COUNT(*), COUNT(n), SUM(n) AS s FROM g GROUP BY k HAVING SUM(n) > 0; "
    ++ codes "SELECT DISTINCT k FROM g ORDER BY 1 DESC;")
    ≡ codes "CREATE TABLE\nINSERT 4\nK|C2|C3|S\nNULL|2|2|12\n'a'|2|1|1\n(2 rows)\nK\n'a'\nNULL\n(2 rows)\n"
unfolding reading
groups = refl

-- names and texts in quotes, and moments with parts of seconds
quoted :
    prints (codes "CREATE TABLE \"n\" (\"a b\" VARCHAR(4), d DATE, m TIMESTAMP(0), s TIMESTAMP GENERATED ALWAYS AS "
    ++ codes "ROW START, e TIMESTAMP GENERATED ALWAYS AS ROW END, PERIOD FOR SYSTEM_TIME (s, e)) WITH SYSTEM "
    ++ codes "VERSIONING; AT TIMESTAMP '2011-01-01 00:00:00'; "
    ++ codes "INSERT INTO \"n\" VALUES ('it''s', DATE '2012-02-29', TIMESTAMP '2012-02-29 23:59:59.5000009'), "
    ++ codes "(NULL, NULL, NULL); SELECT * FROM \"n\";")
    ≡ codes "CREATE TABLE\nAT\nINSERT 2\n\"a b\"|D|M|S|E\n"
    ++ codes "NULL|NULL|NULL|2011-01-01 00:00:00|9999-12-31 23:59:59.999999\n"
    ++ codes "'it''s'|2012-02-29|2012-02-29 23:59:59.500000|2011-01-01 00:00:00|9999-12-31 23:59:59.999999\n"
    ++ codes "(2 rows)\n"
unfolding reading
quoted = refl

-- overlapping portions in a bitemporal table without a key
portions :
    prints (no_key
    ++ codes "UPDATE emp FOR PORTION OF ep FROM DATE '2011-02-01' TO DATE '2011-03-01' SET dept = 'B'; "
    ++ codes "UPDATE emp FOR PORTION OF ep FROM DATE '2011-02-15' TO DATE '2011-04-01' SET dept = 'C'; "
    ++ codes "SELECT dept, estart, eend FROM emp;")
    ≡ codes "CREATE TABLE\nAT\nINSERT 1\nUPDATE 1\nUPDATE 2\nDEPT|ESTART|EEND\n'A'|2011-01-01|2011-02-01\n"
    ++ codes "'A'|2011-04-01|2011-12-31\n'B'|2011-02-01|2011-02-15\n'C'|2011-02-15|2011-03-01\n"
    ++ codes "'C'|2011-03-01|2011-04-01\n(5 rows)\n"
unfolding reading
portions = refl

-- a condition is not evaluated on rows outside the portion
out_of_portion :
    prints (no_key
    ++ codes "INSERT INTO emp VALUES (9223372036854775807, 'Z', DATE '2012-01-01', DATE '2013-01-01'); "
    ++ codes "DELETE FROM emp WHERE eno + 1 > 0; "
    ++ codes "DELETE FROM emp FOR PORTION OF ep FROM DATE '2011-01-01' TO DATE '2011-02-01' WHERE eno + 1 > 0;")
    ≡ codes "CREATE TABLE\nAT\nINSERT 1\nINSERT 1\nREFUSED E30 value out of range\nDELETE 1\n"
unfolding reading
out_of_portion = refl

-- the start of a period is before its end, and neither is NULL
nulls_in_periods :
    prints (no_key
    ++ codes "INSERT INTO emp VALUES (2, 'B', DATE '2011-05-01', DATE '2011-05-01'); "
    ++ codes "INSERT INTO emp VALUES (2, 'B', NULL, DATE '2011-05-01'); "
    ++ codes "SELECT eno FROM emp WHERE SYSTEM_TIME CONTAINS TIMESTAMP '2011-01-01 00:00:00';")
    ≡ codes "CREATE TABLE\nAT\nINSERT 1\nREFUSED E33 period not rising\nREFUSED E32 null not allowed\nENO\n1\n"
    ++ codes "(1 rows)\n"
unfolding reading
nulls_in_periods = refl

-- keys are checked at the end of a statement
keys :
    prints (codes "CREATE TABLE k (x INTEGER, PRIMARY KEY (x)); INSERT INTO k VALUES (1), (2); "
    ++ codes "UPDATE k SET x = x + 1; INSERT INTO k VALUES (2); SELECT x FROM k;")
    ≡ codes "CREATE TABLE\nINSERT 2\nUPDATE 2\nREFUSED E35 duplicate key\nX\n2\n3\n(2 rows)\n"
unfolding reading
keys = refl

-- the rows on which join conditions are evaluated, and the rows that joins return
joins :
    prints (two_numbers
    ++ codes "CREATE TABLE v (y INTEGER); INSERT INTO v VALUES (9223372036854775807); "
    ++ codes "SELECT x FROM t JOIN v ON x + y > 0 WHERE x = 5; "
    ++ codes "SELECT a.x FROM t a JOIN v ON a.x + y > 0, t b WHERE b.x = 9; "
    ++ codes "SELECT x, y FROM t LEFT JOIN v ON x = 1 AND x <> y WHERE y IS NULL; CREATE TABLE z (y INTEGER); "
    ++ codes "INSERT INTO z VALUES (NULL), (1), (1); SELECT COUNT(*) FROM z a JOIN z b ON a.y = b.y;")
    ≡ codes "CREATE TABLE\nINSERT 2\nCREATE TABLE\nINSERT 1\nREFUSED E30 value out of range\n"
    ++ codes "REFUSED E30 value out of range\nX|Y\n2|NULL\n(1 rows)\nCREATE TABLE\nINSERT 3\nC1\n4\n(1 rows)\n"
unfolding reading
joins = refl

-- 65 open parentheses, and 64
deep :
    prints (codes "(((((((((((((((((((((((((((((((((((((((((((((((((((((((((((((((((; "
    ++ codes "((((((((((((((((((((((((((((((((((((((((((((((((((((((((((((((((;")
    ≡ codes "REFUSED E14 nested too deep\nREFUSED E10 not a statement\n"
unfolding reading
deep = refl

-- a byte that is not UTF-8, in a quote with a `;`
not_utf8 :
    prints (39 ∷ 59 ∷ 255 ∷ 39 ∷ 59 ∷ [])
    ≡ codes "REFUSED E11 not UTF-8\n"
unfolding reading
not_utf8 = refl

-- empty statements
no_statements :
    prints (codes ";;")
    ≡ []
unfolding reading
no_statements = refl

-- a row read back at its moment
one_row_read_back :
    prints (empty_log
    ++ codes "INSERT INTO log VALUES (7); "
    ++ codes "SELECT * FROM log FOR SYSTEM_TIME AS OF TIMESTAMP '2011-01-01 00:00:00';")
    ≡ codes "CREATE TABLE\nAT\nINSERT 1\nX|S|E\n7|2011-01-01 00:00:00|9999-12-31 23:59:59.999999\n(1 rows)\n"
unfolding reading
one_row_read_back = refl

-- each commit has a moment of its own
two_commits :
    prints (empty_log
    ++ codes "INSERT INTO log VALUES (8), (-7); INSERT INTO log VALUES (8); "
    ++ codes "SELECT * FROM log FOR SYSTEM_TIME AS OF TIMESTAMP '2011-01-01 00:00:00.000001';")
    ≡ codes "CREATE TABLE\nAT\nINSERT 2\nINSERT 1\nX|S|E\n-7|2011-01-01 00:00:00|9999-12-31 23:59:59.999999\n"
    ++ codes "8|2011-01-01 00:00:00|9999-12-31 23:59:59.999999\n"
    ++ codes "8|2011-01-01 00:00:00.000001|9999-12-31 23:59:59.999999\n(3 rows)\n"
unfolding reading
two_commits = refl

-- ROLLBACK
undone :
    prints (empty_log
    ++ codes "INSERT INTO log VALUES (1); START TRANSACTION; DELETE FROM log; INSERT INTO log VALUES (2); "
    ++ codes "SELECT * FROM log; SELECT * FROM log FOR SYSTEM_TIME AS OF TIMESTAMP '2011-01-01 00:00:00'; "
    ++ codes "ROLLBACK; SELECT * FROM log;")
    ≡ codes "CREATE TABLE\nAT\nINSERT 1\nSTART TRANSACTION\nDELETE 1\nINSERT 1\nX|S|E\n"
    ++ codes "2|2011-01-01 00:00:00.000001|9999-12-31 23:59:59.999999\n(1 rows)\nX|S|E\n"
    ++ codes "1|2011-01-01 00:00:00|2011-01-01 00:00:00.000001\n(1 rows)\nROLLBACK\nX|S|E\n"
    ++ codes "1|2011-01-01 00:00:00|9999-12-31 23:59:59.999999\n(1 rows)\n"
unfolding reading
undone = refl

-- a row that is inserted and deleted in one transaction leaves no history
short_lived :
    prints (empty_log
    ++ codes "START TRANSACTION; INSERT INTO log VALUES (1); DELETE FROM log; COMMIT; "
    ++ codes "SELECT * FROM log FOR SYSTEM_TIME BETWEEN TIMESTAMP '0001-01-01 00:00:00' AND TIMESTAMP "
    ++ codes "'9999-12-31 23:59:59.999999';")
    ≡ codes "CREATE TABLE\nAT\nSTART TRANSACTION\nINSERT 1\nDELETE 1\nCOMMIT\nX|S|E\n(0 rows)\n"
unfolding reading
short_lived = refl

-- a fault in one row changes no row
no_change :
    prints (two_numbers
    ++ codes "UPDATE t SET x = x + 9223372036854775807; SELECT x FROM t;")
    ≡ codes "CREATE TABLE\nINSERT 2\nREFUSED E30 value out of range\nX\n1\n2\n(2 rows)\n"
unfolding reading
no_change = refl

-- SET evaluates all values before it assigns any
exchanged :
    prints (codes "CREATE TABLE w (a INTEGER, b INTEGER); INSERT INTO w VALUES (1, 2); UPDATE w SET a = b, b = a; "
    ++ codes "SELECT a, b FROM w;")
    ≡ codes "CREATE TABLE\nINSERT 1\nUPDATE 1\nA|B\n2|1\n(1 rows)\n"
unfolding reading
exchanged = refl

-- no query before the horizon is allowed, the horizon never moves back, and it cannot be set within a transaction
pruned :
    prints (empty_log
    ++ codes "INSERT INTO log VALUES (7); AT TIMESTAMP '2011-02-01 00:00:00'; DELETE FROM log; "
    ++ codes "AT TIMESTAMP '2011-03-01 00:00:00'; INSERT INTO log VALUES (8); "
    ++ codes "PRUNE HISTORY BEFORE TIMESTAMP '2011-02-10 00:00:00'; "
    ++ codes "SELECT * FROM log FOR SYSTEM_TIME AS OF TIMESTAMP '2011-02-09 23:59:59.999999'; "
    ++ codes "SELECT * FROM log FOR SYSTEM_TIME FROM TIMESTAMP '2011-02-10 00:00:00' TO TIMESTAMP '2012-01-01 "
    ++ codes "00:00:00'; PRUNE HISTORY BEFORE TIMESTAMP '2011-01-15 00:00:00'; "
    ++ codes "PRUNE HISTORY BEFORE TIMESTAMP '2011-02-30 00:00:00'; START TRANSACTION; "
    ++ codes "PRUNE HISTORY BEFORE TIMESTAMP '2011-01-15 00:00:00';")
    ≡ codes "CREATE TABLE\nAT\nINSERT 1\nAT\nDELETE 1\nAT\nINSERT 1\nPRUNE HISTORY\nREFUSED E45 before the horizon\n"
    ++ codes "X|S|E\n8|2011-03-01 00:00:00|9999-12-31 23:59:59.999999\n(1 rows)\nREFUSED E45 before the horizon\n"
    ++ codes "REFUSED E30 value out of range\nSTART TRANSACTION\nREFUSED E40 not in this transaction state\n"
unfolding reading
pruned = refl

-- a reader sees what was committed when it was opened, until it is closed
reader_stays :
    prints (empty_log
    ++ codes "INSERT INTO log VALUES (7); OPEN READER r; START TRANSACTION; DELETE FROM log; READ r SELECT * FROM "
    ++ codes "log; COMMIT; READ r SELECT * FROM log; CREATE TABLE z (x INTEGER); "
    ++ codes "PRUNE HISTORY BEFORE TIMESTAMP '2011-01-02 00:00:00'; CLOSE READER r; READ r SELECT * FROM log;")
    ≡ codes "CREATE TABLE\nAT\nINSERT 1\nOPEN READER\nSTART TRANSACTION\nDELETE 1\nX|S|E\n"
    ++ codes "7|2011-01-01 00:00:00|9999-12-31 23:59:59.999999\n(1 rows)\nCOMMIT\nX|S|E\n"
    ++ codes "7|2011-01-01 00:00:00|9999-12-31 23:59:59.999999\n(1 rows)\nREFUSED E47 readers are open\n"
    ++ codes "REFUSED E47 readers are open\nCLOSE READER\nREFUSED E46 reader not usable\n"
unfolding reading
reader_stays = refl

-- a version that began before the horizon and ended after it is kept
pruned_within :
    prints (empty_log
    ++ codes "INSERT INTO log VALUES (7); AT TIMESTAMP '2011-02-01 00:00:00'; DELETE FROM log; "
    ++ codes "AT TIMESTAMP '2011-03-01 00:00:00'; INSERT INTO log VALUES (8); "
    ++ codes "PRUNE HISTORY BEFORE TIMESTAMP '2011-01-15 00:00:00'; "
    ++ codes "SELECT * FROM log FOR SYSTEM_TIME AS OF TIMESTAMP '2011-01-15 00:00:00';")
    ≡ codes "CREATE TABLE\nAT\nINSERT 1\nAT\nDELETE 1\nAT\nINSERT 1\nPRUNE HISTORY\n"
    ++ codes "X|S|E\n7|2011-01-01 00:00:00|2011-02-01 00:00:00\n(1 rows)\n"
unfolding reading
pruned_within = refl
