-- Field lists and calculated fields: what is written so is read.
use Rattle.std.proofs.Common.{◌≡◌, ℕ, Bool, true, false, not, cond, List, [], ◌∷◌, ◌++◌, codes, Option, Some, None, refl, sym, ap, subst, append_assoc}
use Rattle.std.specs.List.{flat_map, list_all}
use Rattle.std.specs.Str.{bytes_eq}
use Rattle.p414_syntax.specs.declared.keyword.Keyword.TheVariants as key
use Rattle.p414_syntax.specs.declared.lexeme.Literal.{Literal}
use Rattle.p414_syntax.specs.declared.lexeme.Lexeme.{Lexeme}
use Rattle.p414_syntax.specs.declared.lexeme.Lexeme.TheVariants as lexeme
use Rattle.p414_syntax.specs.declared.parts.Index.{Index}
use Rattle.p414_syntax.specs.declared.calculations.Item.{Item}
use Rattle.p414_syntax.specs.declared.calculations.Item.TheVariants as item
use Rattle.p414_syntax.specs.declared.calculations.CalcUse.{CalcUse}
use Rattle.p414_syntax.specs.declared.calculations.CalcUse.TheVariants as calc_use
use Rattle.p414_syntax.specs.declared.calculations.CalcCond.{CalcCond}
use Rattle.p414_syntax.specs.declared.calculations.CalcCond.TheVariants as calc_cond
use Rattle.p414_syntax.specs.declared.calculations.Calc.{Calc}
use Rattle.p414_syntax.specs.Words.{name, keyword, bracket_open, bracket_close, paren_open, paren_close, semicolon, dot, equal}
use Rattle.p414_syntax.specs.Written.{written_option, written_index, written_item, written_if, written_cond, written_calc}
use Rattle.p414_syntax.specs.Conditions.{is_bare, is_item}
use Rattle.p414_reader.specs.declared.symbols.Class.TheVariants as class
use Rattle.p414_reader.specs.declared.symbols.Word.TheVariants as word
use Rattle.p414_reader.specs.declared.symbols.CalculationWord.TheVariants as calculation
use Rattle.p414_reader.specs.declared.built.Built.{Built}
use Rattle.p414_reader.specs.internal.Actions.{with_item}
use Rattle.p414_reader.specs.internal.Rows.{Sym, calculation_sym}
use Rattle.p414_reader.proofs.Readings.{Goes, Reads, ReadsCalm, ◌▷◌, reads, does, from, giving, skips, builds, first_of, both, not_true, is_word, takes_past, like}
use Rattle.p414_reader.proofs.Complete.Parts.{reads_index_in, reads_index_option, reads_inst}

pub reads_items : (items : List Item) → list_all is_item items ≡ true → ReadsCalm (word.Calculation calculation.Items) items (flat_map written_item items)
reads_items [] k symbols b rest c = skips (word.Calculation calculation.Items) symbols b rest refl refl c
reads_items (item.Payload ∷ items) k symbols b rest c =
    reads (keyword key.Payload ∷ semicolon ∷ []) refl ▷ does ▷ reads_items items k symbols _ rest c
reads_items (item.Number n ∷ items) k symbols b rest c =
    reads (lexeme.Number n ∷ semicolon ∷ []) refl ▷ does ▷ reads_items items k symbols _ rest c
reads_items (item.Field r ∷ items) k symbols b rest c =
    from (flat_map written_item (item.Field r ∷ items) ++ rest) (simp append_assoc)
    (reads (name r.instance.name ∷ []) refl
    ▷ reads_index_option r.instance.index _ _ (dot ∷ name r.field ∷ semicolon ∷ (flat_map written_item items ++ rest)) refl ▷ does
    ▷ reads (dot ∷ name r.field ∷ semicolon ∷ []) refl ▷ does ▷ reads_items items k symbols _ rest c)
reads_items (item.Instance i ∷ items) k symbols b rest c =
    let p = both (not (is_bare (codes "payload") i)) (list_all is_item items) k in
    from (flat_map written_item (item.Instance i ∷ items) ++ rest) (simp append_assoc)
    (reads (name i.name ∷ []) refl
    ▷ reads_index_option i.index _ _ (semicolon ∷ (flat_map written_item items ++ rest)) refl ▷ does
    ▷ reads (semicolon ∷ []) refl
    ▷ giving (ap (λ (t : Bool). with_item (cond t item.Payload (item.Instance i)) b) (not_true (is_bare (codes "payload") i) p.0)) does
    ▷ reads_items items p.1 symbols _ rest c)

-- a condition on a field, of an instance with this name
abbrev ReadsEqual : Option Index → List ℕ → Literal → List ℕ → Type 0
ReadsEqual i f n text =
    Reads (word.Calculation calculation.CalcCond)
    (calc_cond.Equal (record { instance = record { name = text; index = i }; field = f }) n)
    (written_cond (calc_cond.Equal (record { instance = record { name = text; index = i }; field = f }) n))

reads_valid_field : (i : Option Index) (f : List ℕ) (n : Literal) → ReadsEqual i f n (codes "valid")
reads_valid_field None f n symbols b rest = reads (keyword key.Valid ∷ dot ∷ name f ∷ equal ∷ lexeme.Number n ∷ []) refl ▷ does
reads_valid_field (Some i) f n symbols b rest =
    reads (keyword key.Valid ∷ bracket_open ∷ []) refl ▷ reads_index_in i _ _ (bracket_close ∷ dot ∷ name f ∷ equal ∷ lexeme.Number n ∷ rest)
    ▷ reads (bracket_close ∷ dot ∷ name f ∷ equal ∷ lexeme.Number n ∷ []) refl ▷ does

reads_equal : (text : List ℕ) (i : Option Index) (f : List ℕ) (n : Literal) → ReadsEqual i f n text
reads_equal text i f n = go (bytes_eq (codes "valid") text) refl
  where
    go : (t : Bool) → bytes_eq (codes "valid") text ≡ t → ReadsEqual i f n text
    go true e symbols b rest = subst (ReadsEqual i f n) (sym (is_word (codes "valid") text e)) (reads_valid_field i f n) symbols b rest
    go false e symbols b rest =
        from (written_cond (calc_cond.Equal (record { instance = record { name = text; index = i }; field = f }) n) ++ rest) (simp append_assoc)
        (takes_past (bytes_eq (codes "valid") text) (word.Calculation calculation.CalcCond) class.Name _ _ symbols b (name text) (written_option written_index i ++ dot ∷ name f ∷ equal ∷ lexeme.Number n ∷ rest) e refl
        ▷ reads_index_option i _ _ (dot ∷ name f ∷ equal ∷ lexeme.Number n ∷ rest) refl ▷ does
        ▷ reads (dot ∷ name f ∷ equal ∷ lexeme.Number n ∷ []) refl ▷ does)

pub reads_calc_cond : (c : CalcCond) → Reads (word.Calculation calculation.CalcCond) c (written_cond c)
reads_calc_cond (calc_cond.Valid i) symbols b rest =
    from (written_cond (calc_cond.Valid i) ++ rest) (simp append_assoc)
    (reads (keyword key.Valid ∷ paren_open ∷ []) refl ▷ reads_inst i _ _ (paren_close ∷ rest) refl ▷ reads (paren_close ∷ []) refl ▷ does)
reads_calc_cond (calc_cond.Equal r n) symbols b rest = reads_equal r.instance.name r.instance.index r.field n symbols b rest

pub reads_calc_if : (c : Option CalcCond) → ReadsCalm (word.Calculation calculation.CalcIf) c (written_option written_if c)
reads_calc_if None symbols b rest k = builds (word.Calculation calculation.CalcIf) _ symbols b rest refl refl k
reads_calc_if (Some c) symbols b rest k =
    from (written_if c ++ rest) (simp append_assoc)
    (reads (keyword key.If ∷ paren_open ∷ []) refl ▷ reads_calc_cond c _ _ (paren_close ∷ rest) ▷ reads (paren_close ∷ []) refl)

reads_calc_used : (u : CalcUse) (n : List ℕ) (c : Option CalcCond) → Reads (word.Calculation calculation.Calc) (record { used_to = u; calculation = n; condition = c }) (written_calc (record { used_to = u; calculation = n; condition = c }))
reads_calc_used calc_use.Update n c symbols b rest =
    from (written_calc (record { used_to = calc_use.Update; calculation = n; condition = c }) ++ rest) (simp append_assoc)
    (reads (keyword key.Update ∷ name n ∷ []) refl ▷ reads_calc_if c _ _ (semicolon ∷ rest) refl ▷ reads (semicolon ∷ []) refl ▷ does)
reads_calc_used calc_use.Verify n c symbols b rest =
    from (written_calc (record { used_to = calc_use.Verify; calculation = n; condition = c }) ++ rest) (simp append_assoc)
    (reads (keyword key.Verify ∷ name n ∷ []) refl ▷ reads_calc_if c _ _ (semicolon ∷ rest) refl ▷ reads (semicolon ∷ []) refl ▷ does)

pub reads_calc : (c : Calc) → Reads (word.Calculation calculation.Calc) c (written_calc c)
reads_calc c = reads_calc_used c.used_to c.calculation c.condition

like_calc : (u : CalcUse) (n : List ℕ) (c : Option CalcCond) (symbols : List Sym) (b : Built) (rest : List Lexeme)
    → Goes (calculation_sym calculation.Calcs ∷ symbols) b (written_calc (record { used_to = u; calculation = n; condition = c }) ++ rest)
    (calculation_sym calculation.Calc ∷ calculation_sym calculation.Calcs ∷ symbols) b (written_calc (record { used_to = u; calculation = n; condition = c }) ++ rest)
like_calc calc_use.Update n c symbols b rest = like (word.Calculation calculation.Calcs) (word.Calculation calculation.Calc) [] _ symbols b (keyword key.Update) _ _ refl refl refl refl
like_calc calc_use.Verify n c symbols b rest = like (word.Calculation calculation.Calcs) (word.Calculation calculation.Calc) [] _ symbols b (keyword key.Verify) _ _ refl refl refl refl

pub reads_calcs : (cs : List Calc) → ReadsCalm (word.Calculation calculation.Calcs) cs (flat_map written_calc cs)
reads_calcs [] symbols b rest k = skips (word.Calculation calculation.Calcs) symbols b rest refl refl k
reads_calcs (c ∷ cs) symbols b rest k =
    from (flat_map written_calc (c ∷ cs) ++ rest) (first_of written_calc c cs rest)
    (like_calc c.used_to c.calculation c.condition symbols b (flat_map written_calc cs ++ rest)
    ▷ reads_calc c _ _ (flat_map written_calc cs ++ rest) ▷ reads_calcs cs symbols _ rest k)
