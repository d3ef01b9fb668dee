-- Tables.
use Rattle.std.proofs.Common.{◌≡◌, ℕ, List, [], ◌∷◌, ◌++◌, length, map, flat_map, option_to_list, refl, sym, ap, ◌∙◌}
use Rattle.std.proofs.lemmas.List.{append_assoc}
use Rattle.p416_syntax.specs.declared.controls.Table16.{Table16}
use Rattle.p416_syntax.specs.Properties.{keys_of, actions_of, size_of, counters_of, default_action_of, default_arguments_of}
use Rattle.p416_syntax.specs.Tree.{Exp16}
use Rattle.p416_syntax.specs.Scopes.{Scope, Handed}
use Rattle.p416_syntax.specs.Calls.{any_literal}
use Rattle.p416_syntax.specs.Expressions.{argument_count}
use Rattle.p416_syntax.specs.Uses.{Use, a_count, a_name, a_number, a_table_of, some_direct_counter, many, uses_at}
use Rattle.p416_syntax.specs.Declarations.{default_place, note_uses, key_uses, action_name_uses, given_uses, defaults_of, table_uses}
use Rattle.p416_expression_uses.specs.Found.{Found, after, after_all}
use Rattle.p416_expression_uses.proofs.Finding.{after_then}
use Rattle.p416_uses.specs.Parts.{rest_uses}
use Rattle.p416_uses.proofs.Turns.{four_seen}

pub given_told : (f g h : Found) (s : Scope) (ps : List Handed) (given : Exp16) → g ≡ after f (a_count (length ps) (argument_count given))
    → h ≡ after_all g (uses_at s (many (map default_place ps) any_literal) given) → h ≡ after_all f (given_uses s ps given)
given_told f g h s ps given of_count of_arguments = of_arguments ∙ ap (λ x. after_all x (uses_at s (many (map default_place ps) any_literal) given)) of_count

pub arguments_told : (f g : Found) (s : Scope) (ps qs : List Handed) (given : Exp16) → ps ≡ qs → g ≡ after_all f (given_uses s ps given) → g ≡ after_all f (given_uses s qs given)
arguments_told f g s ps qs given same is = is ∙ ap (λ xs. after_all f (given_uses s xs given)) same

pub rest_told : (f g h k l : Found) (s : Scope) (t : Table16) → g ≡ after_all f (flat_map (action_name_uses s) (actions_of t.properties))
    → h ≡ after_all g (map a_number (option_to_list (size_of t.properties))) → k ≡ after_all h (map (a_name s some_direct_counter) (option_to_list (counters_of t.properties)))
    → l ≡ after_all k (defaults_of s (default_action_of t.properties) (default_arguments_of t.properties)) → l ≡ after_all f (rest_uses s t)
rest_told f g h k l s t of_actions of_size of_counters of_default =
    four_seen f g h k l (flat_map (action_name_uses s) (actions_of t.properties)) (map a_number (option_to_list (size_of t.properties)))
    (map (a_name s some_direct_counter) (option_to_list (counters_of t.properties))) (defaults_of s (default_action_of t.properties) (default_arguments_of t.properties))
    of_actions of_size of_counters of_default

regrouped : (xs a b c d : List Use) → xs ++ (a ++ b ++ c ++ d) ≡ xs ++ a ++ b ++ c ++ d
regrouped xs a b c d =
    sym (append_assoc xs (a ++ b ++ c) d)
    ∙ (ap (λ ys. ys ++ d) (sym (append_assoc xs (a ++ b) c)) ∙ ap (λ ys. (ys ++ c) ++ d) (sym (append_assoc xs a b)))

pub table_told : (f g w h k : Found) (s u : Scope) (t : Table16) → g ≡ after_all f (note_uses t.notes) → w ≡ after g (a_table_of s t) → h ≡ after_all w (flat_map (key_uses s) (keys_of t.properties)) → u ≡ s
    → k ≡ after_all h (rest_uses u t) → k ≡ after_all f (table_uses s t)
table_told f g w h k s u t of_notes of_whole of_keys same of_rest =
    after_then f h k (note_uses t.notes ++ a_table_of s t ∷ flat_map (key_uses s) (keys_of t.properties)) (rest_uses s t)
    (after_then f g h (note_uses t.notes) (a_table_of s t ∷ flat_map (key_uses s) (keys_of t.properties)) of_notes
    (of_keys ∙ ap (λ x. after_all x (flat_map (key_uses s) (keys_of t.properties))) of_whole))
    (of_rest ∙ ap (λ v. after_all h (rest_uses v t)) same)
    ∙ ap (after_all f)
    (regrouped (note_uses t.notes ++ a_table_of s t ∷ flat_map (key_uses s) (keys_of t.properties)) (flat_map (action_name_uses s) (actions_of t.properties))
    (map a_number (option_to_list (size_of t.properties))) (map (a_name s some_direct_counter) (option_to_list (counters_of t.properties)))
    (defaults_of s (default_action_of t.properties) (default_arguments_of t.properties)))
