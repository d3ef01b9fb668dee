-- Actions: what is written so is read.
use Rattle.std.proofs.Common.{ℕ, List, [], ◌∷◌, ◌++◌, Option, Some, None, refl, ap, append_assoc}
use Rattle.std.specs.List.{flat_map}
use Rattle.p414_syntax.specs.declared.lexeme.Literal.{Literal}
use Rattle.p414_syntax.specs.declared.lexeme.Lexeme.{Lexeme}
use Rattle.p414_syntax.specs.declared.lexeme.Lexeme.TheVariants as lexeme
use Rattle.p414_syntax.specs.declared.parts.Sign.{Sign}
use Rattle.p414_syntax.specs.declared.parts.Sign.TheVariants as sign
use Rattle.p414_syntax.specs.declared.actions.Arg.{Arg}
use Rattle.p414_syntax.specs.declared.actions.Arg.TheVariants as arg
use Rattle.p414_syntax.specs.declared.actions.Call.{Call}
use Rattle.p414_syntax.specs.Words.{name, paren_open, paren_close, semicolon, dot, comma, plus, minus}
use Rattle.p414_syntax.specs.Written.{after_commas, by_commas, written_name, written_ref, written_arg, written_call}
use Rattle.p414_reader.specs.declared.symbols.Word.TheVariants as word
use Rattle.p414_reader.specs.declared.symbols.PartWord.TheVariants as part
use Rattle.p414_reader.specs.declared.symbols.CallWord.TheVariants as called
use Rattle.p414_reader.specs.declared.built.Built.{Built}
use Rattle.p414_reader.specs.internal.Rows.{Sym, call_sym}
use Rattle.p414_reader.proofs.Readings.{Goes, ReadsCalm, ◌▷◌, reads, does, from, giving, skips, calmer, first_of, extended_is, like, calm_commas}
use Rattle.p414_reader.proofs.Complete.Parts.{reads_more_names, reads_index_option, reads_field_option, ref_tokens}

pub reads_params : (names : List (List ℕ)) → ReadsCalm (word.Call called.Params) names (by_commas written_name names)
reads_params [] symbols b rest c = skips (word.Call called.Params) symbols b rest refl refl c
reads_params (n ∷ names) symbols b rest c =
    reads (name n ∷ []) refl ▷ does ▷ reads_more_names names symbols _ rest (calmer (word.Part part.MoreNames) (word.Call called.Params) rest refl c)

reads_number_arg : (s : Option Sign) (n : Literal) → ReadsCalm (word.Call called.Arg) (arg.Number (record { sign = s; literal = n })) (written_arg (arg.Number (record { sign = s; literal = n })))
reads_number_arg None n symbols b rest c = reads (lexeme.Number n ∷ []) refl ▷ does ▷ does
reads_number_arg (Some sign.Plus) n symbols b rest c = reads (plus ∷ lexeme.Number n ∷ []) refl ▷ does ▷ does
reads_number_arg (Some sign.Minus) n symbols b rest c = reads (minus ∷ lexeme.Number n ∷ []) refl ▷ does ▷ does

pub reads_arg : (a : Arg) → ReadsCalm (word.Call called.Arg) a (written_arg a)
reads_arg (arg.Number n) symbols b rest c = reads_number_arg n.sign n.literal symbols b rest c
reads_arg (arg.Field r) symbols b rest c =
    from (written_ref r ++ rest) (ref_tokens r rest)
    (reads (name r.instance.name ∷ []) refl ▷ reads_index_option r.instance.index _ _ (dot ∷ name r.field ∷ rest) refl ▷ does
    ▷ reads (dot ∷ name r.field ∷ []) refl ▷ does ▷ does)
reads_arg (arg.Instance i) symbols b rest c =
    reads (name i.name ∷ []) refl ▷ reads_index_option i.index _ _ rest (calmer (word.Part part.IndexOption) (word.Call called.Arg) rest refl c) ▷ does
    ▷ reads_field_option None _ _ rest (calmer (word.Part part.FieldOption) (word.Call called.Arg) rest refl c) ▷ does

pub reads_more_args : (as_ : List Arg) → ReadsCalm (word.Call called.MoreArgs) as_ (after_commas written_arg as_)
reads_more_args [] symbols b rest c = skips (word.Call called.MoreArgs) symbols b rest refl refl c
reads_more_args (a ∷ as_) symbols b rest c =
    from (after_commas written_arg (a ∷ as_) ++ rest) (first_of (λ x. comma ∷ written_arg x) a as_ rest)
    (reads (comma ∷ []) refl
    ▷ reads_arg a _ _ (after_commas written_arg as_ ++ rest) (calm_commas (word.Call called.Arg) written_arg as_ rest refl (calmer (word.Call called.Arg) (word.Call called.MoreArgs) rest refl c))
    ▷ reads_more_args as_ symbols _ rest c)

-- the first argument of a list is read as any argument
abbrev LikeArg : Arg → Type 0
LikeArg a = (symbols : List Sym) (b : Built) (rest : List Lexeme)
    → Goes (call_sym called.Args ∷ symbols) b (written_arg a ++ rest) (call_sym called.Arg ∷ call_sym called.MoreArgs ∷ symbols) b (written_arg a ++ rest)

like_number : (s : Option Sign) (n : Literal) → LikeArg (arg.Number (record { sign = s; literal = n }))
like_number None n symbols b rest = like (word.Call called.Args) (word.Call called.Arg) [] _ symbols b (lexeme.Number n) _ _ refl refl refl refl
like_number (Some sign.Plus) n symbols b rest = like (word.Call called.Args) (word.Call called.Arg) [] _ symbols b plus _ _ refl refl refl refl
like_number (Some sign.Minus) n symbols b rest = like (word.Call called.Args) (word.Call called.Arg) [] _ symbols b minus _ _ refl refl refl refl

like_arg : (a : Arg) → LikeArg a
like_arg (arg.Number n) symbols b rest = like_number n.sign n.literal symbols b rest
like_arg (arg.Field r) symbols b rest = like (word.Call called.Args) (word.Call called.Arg) [] _ symbols b (name r.instance.name) _ _ refl refl refl refl
like_arg (arg.Instance i) symbols b rest = like (word.Call called.Args) (word.Call called.Arg) [] _ symbols b (name i.name) _ _ refl refl refl refl

pub reads_args : (as_ : List Arg) → ReadsCalm (word.Call called.Args) as_ (by_commas written_arg as_)
reads_args [] symbols b rest c = skips (word.Call called.Args) symbols b rest refl refl c
reads_args (a ∷ as_) symbols b rest c =
    let k = calmer (word.Call called.MoreArgs) (word.Call called.Args) rest refl c in
    from (by_commas written_arg (a ∷ as_) ++ rest) (append_assoc (written_arg a) (after_commas written_arg as_) rest)
    (like_arg a symbols b (after_commas written_arg as_ ++ rest)
    ▷ reads_arg a _ _ (after_commas written_arg as_ ++ rest) (calm_commas (word.Call called.Arg) written_arg as_ rest refl (calmer (word.Call called.Arg) (word.Call called.MoreArgs) rest refl k))
    ▷ reads_more_args as_ symbols _ rest k)

pub reads_calls : (cs : List Call) → ReadsCalm (word.Call called.Calls) cs (flat_map written_call cs)
reads_calls [] symbols b rest c = skips (word.Call called.Calls) symbols b rest refl refl c
reads_calls (a ∷ cs) symbols b rest c =
    from (flat_map written_call (a ∷ cs) ++ rest) (simp append_assoc)
    (reads (name a.name ∷ paren_open ∷ []) refl ▷ does
    ▷ giving (ap (λ ls. record b { parts = record b.parts { names = a.name ∷ b.parts.names }; calls = record b.calls { arguments = ls } }) (extended_is a.arguments [] b.calls.arguments))
    (reads_args a.arguments _ _ (paren_close ∷ semicolon ∷ (flat_map written_call cs ++ rest)) refl)
    ▷ reads (paren_close ∷ semicolon ∷ []) refl ▷ does ▷ reads_calls cs symbols _ rest c)
