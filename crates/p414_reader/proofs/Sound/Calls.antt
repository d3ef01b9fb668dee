-- That the rows of actions have the meaning of their words.
use Rattle.std.proofs.Common.{◌≡◌, ℕ, List, [], ◌∷◌, ◌++◌, Option, Some, None, refl, sym, ap, append-nil}
use Rattle.std.specs.List.{flat_map}
use Rattle.predictive_parser.proofs.Meanings.{RowsShow, NoneShows}
use Rattle.p414_syntax.specs.declared.parts.Sign.TheVariants as sign
use Rattle.p414_syntax.specs.declared.parts.Inst.{Inst}
use Rattle.p414_syntax.specs.declared.actions.Arg.{Arg}
use Rattle.p414_syntax.specs.declared.actions.Arg.TheVariants as arg
use Rattle.p414_syntax.specs.declared.actions.Call.{Call}
use Rattle.p414_syntax.specs.Words.{name, paren_open, paren_close, semicolon}
use Rattle.p414_syntax.specs.Written.{written_option, by_commas, written_inst, written_arg, written_call}
use Rattle.p414_reader.specs.declared.symbols.Word.TheVariants as word
use Rattle.p414_reader.specs.declared.symbols.CallWord.{CallWord}
use Rattle.p414_reader.specs.declared.symbols.CallWord.TheVariants as call
use Rattle.predictive_parser.specs.Values.{newest, older, extended}
use Rattle.p414_reader.specs.internal.Actions.{arg_of}
use Rattle.p414_reader.specs.internal.Rows.{grammar14}
use Rattle.p414_reader.specs.declared.built.Built.{Built}
use Rattle.p414_reader.proofs.Meaning.{extended_by, written_dot, meaning14}
use Rattle.p414_reader.proofs.Lists.{by_value, ends_joined, extended_by_list}
use Rattle.p414_reader.proofs.Fixed.{fixed14, by_name, by_number}

-- an instance, or a field of it, as the argument that they are
arg_spelled : (i : Inst) (field : Option (List ℕ)) → written_inst i ++ written_option written_dot field ≡ written_arg (arg_of i field)
arg_spelled i None = append-nil (written_inst i)
arg_spelled i (Some f) = refl

-- what is built with these lists of arguments, the newest of which is taken
abbrev with_calls : Built → List ℕ → List Call → List (List Arg) → Built
with_calls built text calls lists =
    record built {
      calls = record built.calls {
        arguments = older lists;
        calls = extended_by calls (extended (record { name = text; arguments = newest [] lists } ∷ []) built.calls.calls);
      };
    }

pub rows_mean : (w : CallWord) (built : Built) → RowsShow grammar14 fixed14 meaning14 (word.Call w) built (grammar14.rows (word.Call w))
rows_mean call.Params built = (by_name _ (λ text. by_value _ _ (λ names. (text ∷ names, refl, refl))), tt)
rows_mean call.Calls built = (
  by_name _ (λ text. by_value _ _ (λ arguments. by_value _ _ (λ calls. (
    record { name = text; arguments = arguments } ∷ calls,
    ap (λ us. name text ∷ paren_open ∷ us) (ends_joined (by_commas written_arg arguments) paren_close semicolon (flat_map written_call calls)),
    ap (with_calls built text calls) (sym (extended_by_list arguments [] built.calls.arguments)),
  )))),
  tt,
)
rows_mean call.Arg built = (
  by_number _ (λ n. (arg.Number (record { sign = Some sign.Plus; literal = n }), refl, refl)),
  (
    by_number _ (λ n. (arg.Number (record { sign = Some sign.Minus; literal = n }), refl, refl)),
    (
      by_number _ (λ n. (arg.Number (record { sign = None; literal = n }), refl, refl)),
      (
        by_name _ (λ text. by_value _ _ (λ index. by_value _ _ (λ field.
            (arg_of (record { name = text; index = index }) field, arg_spelled (record { name = text; index = index }) field, refl)))),
        tt,
      ),
    ),
  ),
)
rows_mean call.Args built = (by_value _ _ (λ argument. by_value _ _ (λ more. (argument ∷ more, refl, refl))), tt)
rows_mean call.MoreArgs built = (by_value _ _ (λ argument. by_value _ _ (λ more. (argument ∷ more, refl, refl))), tt)

pub none_means : (w : CallWord) (built : Built) → NoneShows grammar14 fixed14 meaning14 (word.Call w) built (grammar14.otherwise (word.Call w))
none_means call.Params built = ([], refl, refl)
none_means call.Calls built = ([], refl, refl)
none_means call.Arg built = tt
none_means call.Args built = ([], refl, refl)
none_means call.MoreArgs built = ([], refl, refl)
