use Rattle.std.proofs.Common.{ℕ, List, ◌∷◌, ◌++◌, drop, ap, ◌∙◌, arith, rules}
use Rattle.std.specs.Fmt.{decimal}
use Rattle.std.proofs.lemmas.Fmt.{length-decimal-le}
use Rattle.std.proofs.lemmas.List.{drop_all}
use Rattle.run_stream.proofs.stream.put_numbers.Goals as goal

pub write_digits-end-requires : goal.write_digits-end-requires
write_digits-end-requires c = (omega (arith, length-decimal-le 20 c.args.size (omega arith) (omega arith) c.ranges.size.fits, c.put_octet-end.ensures.start), search rules)

pub put_octet-end-requires-2 : goal.put_octet-end-requires-2
put_octet-end-requires-2 c = (omega (arith, length-decimal-le 20 c.args.size (omega arith) (omega arith) c.ranges.size.fits, c.put_octet-end.ensures.start, c.write_digits-end.ensures.start), search rules)

pub write_digits-requires : goal.write_digits-requires
write_digits-requires c = (
  omega (arith, length-decimal-le 20 c.args.size (omega arith) (omega arith) c.ranges.size.fits, length-decimal-le 5 c.from.result (omega arith) (omega (arith, c.from.ensures)) (omega (arith, c.from.ensures)), c.put_octet-end.ensures.start, c.write_digits-end.ensures.start, c.put_octet-end-2.ensures.start),
  search rules,
)

pub returns-clause-written : goal.returns-clause-written
returns-clause-written c =
    c.write_digits.ensures.written
    ∙ ap (λ (n : ℕ). decimal n ++ drop c.put_octet-end-2.result c.put_octet-end-2.new.line) c.from.ensures
    ∙ ap (λ (l : List ℕ). decimal c.args.port ++ l)
    (c.put_octet-end-2.ensures.written ∙ ap (λ (l : List ℕ). 32 ∷ l) (c.write_digits-end.ensures.written ∙ ap (λ (l : List ℕ). decimal c.args.size ++ l) (c.put_octet-end.ensures.written ∙ ap (λ (l : List ℕ). 10 ∷ l) (drop_all 27 c.args.line.now (omega arith)))))
