-- The parts of a syntax that a text can have have tokens that can stand in a text.
use Rattle.std.proofs.Common.{◌≡◌, true, sym, ◌∙◌}
use Rattle.std.specs.List.{list_all, flat_map}
use Rattle.std.proofs.lemmas.List.Folds.{list_all-append}
use Rattle.std.proofs.lemmas.Bool.{and_parts}
use Rattle.p416_syntax.specs.declared.program.Syntax16.{Syntax16}
use Rattle.p416_syntax.specs.Tokens.{is_spelt_seen}
use Rattle.p416_syntax.specs.Written.{written_decl, written_main, written}
use Rattle.p416_syntax.specs.Conditions.{is_syntax, without_parentheses}
use Rattle.p416_syntax.specs.Spelt.{is_spelt16}

pub all_spelt : (s : Syntax16) → is_spelt16 s ≡ true → list_all is_spelt_seen (written s) ≡ true
all_spelt s h = (and_parts (is_syntax without_parentheses s) (list_all is_spelt_seen (written s)) h).1

parts : (s : Syntax16) → list_all is_spelt_seen (written s) ≡ true → (list_all is_spelt_seen (flat_map written_decl s.decls) ≡ true) × (list_all is_spelt_seen (written_main s.main) ≡ true)
parts s h =
    and_parts (list_all is_spelt_seen (flat_map written_decl s.decls)) (list_all is_spelt_seen (written_main s.main))
    (sym (list_all-append is_spelt_seen (flat_map written_decl s.decls) (written_main s.main)) ∙ h)

pub decls_spelt : (s : Syntax16) → list_all is_spelt_seen (written s) ≡ true → list_all is_spelt_seen (flat_map written_decl s.decls) ≡ true
decls_spelt s h = (parts s h).0

pub main_spelt : (s : Syntax16) → list_all is_spelt_seen (written s) ≡ true → list_all is_spelt_seen (written_main s.main) ≡ true
main_spelt s h = (parts s h).1
