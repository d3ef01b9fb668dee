-- The row that is chosen is the first of a word's rows that fits.
use Rattle.std.proofs.Common.{◌≡◌, ℕ, Bool, true, false, if◌then◌else◌, List, [], ◌∷◌, ◌++◌, map, Option, Some, None, refl, sym, ap, ◌∙◌, subst, append-nil, drop, length, ◌+◌, ◌<◌, suc, get_or}
use Rattle.std.proofs.lemmas.List.{map-append}
use Rattle.std.proofs.Math.Seq.{drop-cons}
use Rattle.std.proofs.Math.Numerals.{add-one}
use Rattle.std.specs.Option.{is_some}
use Rattle.predictive_parser.specs.Grammar as grammar
use Rattle.predictive_parser.specs.Grammar.{Grammar, Line, first_fit, lines_of, with_more, plain_lines}
use Rattle.predictive_parser.specs.Choices.{Chooses}
use Rattle.predictive_parser.specs.declared.symbol.Symbol.{Symbol}
use Rattle.predictive_parser.specs.declared.row.Row.{Row}
use Rattle.predictive_parser.specs.declared.row.Row.TheVariants.{Plain, Like, Coded}
use Rattle.predictive_parser.specs.Told.{told, row_of}

-- the first, and where there is none, the other
abbrev or_else : {A : Type 0} → Option A → Option A → Option A
or_else (Some x) other = Some x
or_else None other = other

by_test : {X : Type 0} (b : Bool) (x : X) (o p : Option X) → or_else (if b then Some x else o) p ≡ (if b then Some x else or_else o p)
by_test true x o p = refl
by_test false x o p = refl

pub next : {X : Type 0} (xs : List X) (i : ℕ) (x d : X) → i < length xs → x ≡ get_or xs i d → drop i xs ≡ x ∷ drop (i + 1) xs
next xs i x d l e = drop-cons xs i d l ∙ ap (λ y. y ∷ drop (suc i) xs) (sym e) ∙ ap (λ n. x ∷ drop n xs) (sym (add-one i))

pub found_none : {X : Type 0} (found : Option X) → is_some found ≡ false → found ≡ None
found_none (Some x) e = cc
found_none None e = refl

module _ {C A W T B : Type 0} (g : Grammar C A W T B) where
  abbrev Lines : Type 0
  Lines = List (Line C A W T)

  abbrev Fit : Type 0
  Fit = Option (C × List (Symbol C A W))

  joined_fit : (token : T) (built : B) (lines others : Lines) → first_fit g token built (lines ++ others) ≡ or_else (first_fit g token built lines) (first_fit g token built others)
  joined_fit token built [] others = refl
  joined_fit token built (line ∷ lines) others =
      ap (λ (o : Fit). if g.accepts line.first token built then Some (line.first, line.rest token) else o) (joined_fit token built lines others)
      ∙ sym (by_test (g.accepts line.first token built) (line.first, line.rest token) (first_fit g token built lines) (first_fit g token built others))

  kept_front : (found : Option C) (fit other : Fit) (old new : List (Symbol C A W)) → is_some found ≡ true → Chooses found fit old new → Chooses found (or_else fit other) old new
  kept_front (Some class) (Some fit) other old new e h = h
  kept_front (Some class) None other old new e h = absurd h
  kept_front None fit other old new e h = cc

  none_fits : (found : Option C) (fit other : Fit) (old new : List (Symbol C A W)) → is_some found ≡ false → Chooses found fit old new → or_else fit other ≡ other
  none_fits (Some class) fit other old new e h = cc
  none_fits None (Some fit) other old new e h = absurd h
  none_fits None None other old new e h = refl

  -- what is found in front
  in_front : (token : T) (built : B) (found : Option C) (old new : List (Symbol C A W)) (lines others : Lines)
      → is_some found ≡ true → Chooses found (first_fit g token built lines) old new → Chooses found (first_fit g token built (lines ++ others)) old new
  in_front token built found old new lines others e h =
      subst (λ x. Chooses found x old new) (sym (joined_fit token built lines others)) (kept_front found (first_fit g token built lines) (first_fit g token built others) old new e h)

  -- where nothing is found in front
  behind : (token : T) (built : B) (found : Option C) (old new : List (Symbol C A W)) (lines others : Lines)
      → is_some found ≡ false → Chooses found (first_fit g token built lines) old new → first_fit g token built (lines ++ others) ≡ first_fit g token built others
  behind token built found old new lines others e h =
      joined_fit token built lines others ∙ none_fits found (first_fit g token built lines) (first_fit g token built others) old new e h

  -- of the rows that are left, the first is the one that is found
  pub here : (token : T) (built : B) (found : Option C) (before old new : List (Symbol C A W)) (whole left lines others : Lines)
      → first_fit g token built whole ≡ first_fit g token built left → left ≡ lines ++ others → before ≡ old → is_some found ≡ true
      → Chooses found (first_fit g token built lines) before new → Chooses found (first_fit g token built whole) old new
  here token built found before old new whole left lines others k split e some h =
      subst (λ x. Chooses found x old new) (sym (k ∙ ap (first_fit g token built) split))
      (in_front token built found old new lines others some (subst (λ stack. Chooses found (first_fit g token built lines) stack new) e h))

  -- the first of the rows that are left doesn't fit
  pub past : (token : T) (built : B) (found : Option C) (old new : List (Symbol C A W)) (whole left lines others : Lines)
      → first_fit g token built whole ≡ first_fit g token built left → left ≡ lines ++ others → is_some found ≡ false
      → Chooses found (first_fit g token built lines) old new → first_fit g token built whole ≡ first_fit g token built others
  past token built found old new whole left lines others k split none h =
      k ∙ ap (first_fit g token built) split ∙ behind token built found old new lines others none h

  nothing_more : (token : T) (built : B) (lines : Lines) → first_fit g token built (map (with_more []) lines) ≡ first_fit g token built lines
  nothing_more token built [] = refl
  nothing_more token built (line ∷ lines) =
      ap (λ (rest : List (Symbol C A W)). if g.accepts line.first token built then Some (line.first, rest) else first_fit g token built (map (with_more []) lines)) (append-nil (line.rest token))
      ∙ ap (λ (o : Fit). if g.accepts line.first token built then Some (line.first, line.rest token) else o) (nothing_more token built lines)

  lines_coded : (coded : Lines) (rows : List (grammar.Row C A W T)) → lines_of g (map row_of coded ++ rows) ≡ coded ++ lines_of g rows
  lines_coded [] rows = refl
  lines_coded (line ∷ coded) rows = ap (λ (lines : Lines). line ∷ lines) (lines_coded coded rows)

  plain_coded : (coded : Lines) (rows : List (grammar.Row C A W T)) → plain_lines (map row_of coded ++ rows) ≡ coded ++ plain_lines rows
  plain_coded [] rows = refl
  plain_coded (line ∷ coded) rows = ap (λ (lines : Lines). line ∷ lines) (plain_coded coded rows)

  pub lines_split : (coded : Lines) (row : Row C A W) (rows : List (Row C A W)) → lines_of g (told coded (row ∷ rows)) ≡ lines_of g (told coded (row ∷ [])) ++ lines_of g (told coded rows)
  lines_split coded (Plain first rest) rows = refl
  lines_split coded (Like word more) rows =
      ap (λ (lines : Lines). lines ++ lines_of g (told coded rows)) (sym (append-nil (map (with_more more.now) (plain_lines (g.rows word)))))
  lines_split coded Coded rows =
      lines_coded coded (told coded rows) ∙ ap (λ (lines : Lines). lines ++ lines_of g (told coded rows)) (sym (lines_coded coded [] ∙ append-nil coded))

  pub plain_split : (coded : Lines) (more : List (Symbol C A W)) (row : Row C A W) (rows : List (Row C A W))
      → map (with_more more) (plain_lines (told coded (row ∷ rows))) ≡ map (with_more more) (plain_lines (told coded (row ∷ []))) ++ map (with_more more) (plain_lines (told coded rows))
  plain_split coded more (Plain first rest) rows = refl
  plain_split coded more (Like word others) rows = refl
  plain_split coded more Coded rows =
      ap (map (with_more more)) (plain_coded coded (told coded rows) ∙ ap (λ (lines : Lines). lines ++ plain_lines (told coded rows)) (sym (plain_coded coded [] ∙ append-nil coded)))
      ∙ map-append (with_more more) (plain_lines (told coded (Coded ∷ []))) (plain_lines (told coded rows))

  pub coded_alone : (token : T) (built : B) (coded : Lines) → first_fit g token built (map (with_more []) coded) ≡ first_fit g token built (lines_of g (told coded (Coded ∷ [])))
  coded_alone token built coded = nothing_more token built coded ∙ ap (first_fit g token built) (sym (lines_coded coded [] ∙ append-nil coded))

  pub coded_line : (coded : Lines) (more : List (Symbol C A W)) → map (with_more more) coded ≡ map (with_more more) (plain_lines (told coded (Coded ∷ [])))
  coded_line coded more = ap (map (with_more more)) (sym (plain_coded coded [] ∙ append-nil coded))
