-- The names that a form gives are apart.
use Rattle.std.proofs.Common.{◌≡◌, ℕ, Bool, true, false, ◌&&◌, if◌then◌else◌, List, [], ◌∷◌, codes, Option, Some, None, refl, subst}
use Rattle.std.specs.Option.{option_map, option_and_then}
use Rattle.std.specs.Str.{bytes_eq}
use Rattle.p414_syntax.specs.declared.syntax.Rule14.{Rule14}
use Rattle.command_words.specs.Apart.{are_apart, AreApart}
use Rattle.command_words.specs.Words.{CarryFiles, Run14Files, Run16Files, Command, carry, check, order, run14, run16, carry_inputs, carry_outputs, run14_inputs, run14_outputs, run16_inputs, run16_outputs, inputs_of, outputs_of, is_value, are_inputs, are_carry_names, are_run14_names, are_run16_names, Options, no_options, options_in, passes_in, rule_in, carry_by, carry_found, carry_form, run14_by, run14_found, run14_form, run16_by, run16_found, run16_form, program_form, form}
use Rattle.command_words.proofs.Distinct.{last, apart_is}

-- of `carry`

carry_named : (f : CarryFiles) → are_carry_names f ≡ true → AreApart (carry_inputs f) (carry_outputs f)
carry_named f is =
    apart_is (carry_inputs f) (carry_outputs f)
    (last (are_inputs f.program f.entries f.capture f.ports && is_value f.text && is_value f.sent && is_value f.report) (are_apart (carry_inputs f) (carry_outputs f)) is)

carry_by_test : (f g : CarryFiles) (b : Bool) → are_carry_names f ≡ b → (if b then Some f else None) ≡ Some g → AreApart (carry_inputs g) (carry_outputs g)
carry_by_test f g true names is = let same : f ≡ g = cc is in subst (λ (x : CarryFiles). AreApart (carry_inputs x) (carry_outputs x)) same (carry_named f names)
carry_by_test f g false names is = absurd (cc is)

carry_by_found : (program entries capture : List ℕ) (ports rule : Option (List ℕ)) (passes : Option ℕ) (text sent report : Option (List ℕ)) (g : CarryFiles)
    → carry_by program entries capture ports rule passes text sent report ≡ Some g → AreApart (carry_inputs g) (carry_outputs g)
carry_by_found program entries capture ports None (Some passes) (Some text) (Some sent) (Some report) g is =
    let f : CarryFiles = record {
      program = program;
      entries = entries;
      capture = capture;
      ports = ports;
      text = text;
      sent = sent;
      report = report;
      passes = passes;
    } in
    carry_by_test f g (are_carry_names f) refl is
carry_by_found program entries capture ports None (Some passes) (Some text) (Some sent) None g is = absurd (cc is)
carry_by_found program entries capture ports None (Some passes) (Some text) None report g is = absurd (cc is)
carry_by_found program entries capture ports None (Some passes) None sent report g is = absurd (cc is)
carry_by_found program entries capture ports None None text sent report g is = absurd (cc is)
carry_by_found program entries capture ports (Some rule) passes text sent report g is = absurd (cc is)

carry_by_options : (program entries capture : List ℕ) (o : Option Options) (g : CarryFiles)
    → option_and_then (carry_found program entries capture) o ≡ Some g → AreApart (carry_inputs g) (carry_outputs g)
carry_by_options program entries capture None g is = absurd (cc is)
carry_by_options program entries capture (Some o) g is = carry_by_found program entries capture o.ports o.rule (passes_in o.passes) o.text o.sent o.report g is

carry_apart : (words : List (List ℕ)) (g : CarryFiles) → carry_form words ≡ Some g → AreApart (carry_inputs g) (carry_outputs g)
carry_apart (program ∷ entries ∷ capture ∷ words) g is = carry_by_options program entries capture (options_in words no_options) g is
carry_apart [] g is = absurd (cc is)
carry_apart (program ∷ []) g is = absurd (cc is)
carry_apart (program ∷ entries ∷ []) g is = absurd (cc is)

by_carry : (words : List (List ℕ)) (c : Command) (o : Option CarryFiles) → carry_form words ≡ o → option_map (λ f. carry f) o ≡ Some c → AreApart (inputs_of c) (outputs_of c)
by_carry words c None here is = absurd (cc is)
by_carry words c (Some g) here is = let same : carry g ≡ c = cc is in subst (λ (x : Command). AreApart (inputs_of x) (outputs_of x)) same (carry_apart words g here)

-- of `run14`

run14_named : (f : Run14Files) → are_run14_names f ≡ true → AreApart (run14_inputs f) (run14_outputs f)
run14_named f is =
    apart_is (run14_inputs f) (run14_outputs f)
    (last (are_inputs f.program f.entries f.capture f.ports && is_value f.sent && is_value f.report) (are_apart (run14_inputs f) (run14_outputs f)) is)

run14_by_test : (f g : Run14Files) (b : Bool) → are_run14_names f ≡ b → (if b then Some f else None) ≡ Some g → AreApart (run14_inputs g) (run14_outputs g)
run14_by_test f g true names is = let same : f ≡ g = cc is in subst (λ (x : Run14Files). AreApart (run14_inputs x) (run14_outputs x)) same (run14_named f names)
run14_by_test f g false names is = absurd (cc is)

run14_by_found : (program entries capture : List ℕ) (ports text : Option (List ℕ)) (rule : Option Rule14) (passes : Option ℕ) (sent report : Option (List ℕ)) (g : Run14Files)
    → run14_by program entries capture ports text rule passes sent report ≡ Some g → AreApart (run14_inputs g) (run14_outputs g)
run14_by_found program entries capture ports None (Some rule) (Some passes) (Some sent) (Some report) g is =
    let f : Run14Files = record {
      program = program;
      entries = entries;
      capture = capture;
      ports = ports;
      sent = sent;
      report = report;
      rule = rule;
      passes = passes;
    } in
    run14_by_test f g (are_run14_names f) refl is
run14_by_found program entries capture ports None (Some rule) (Some passes) (Some sent) None g is = absurd (cc is)
run14_by_found program entries capture ports None (Some rule) (Some passes) None report g is = absurd (cc is)
run14_by_found program entries capture ports None (Some rule) None sent report g is = absurd (cc is)
run14_by_found program entries capture ports None None passes sent report g is = absurd (cc is)
run14_by_found program entries capture ports (Some text) rule passes sent report g is = absurd (cc is)

run14_by_options : (program entries capture : List ℕ) (o : Option Options) (g : Run14Files)
    → option_and_then (run14_found program entries capture) o ≡ Some g → AreApart (run14_inputs g) (run14_outputs g)
run14_by_options program entries capture None g is = absurd (cc is)
run14_by_options program entries capture (Some o) g is = run14_by_found program entries capture o.ports o.text (rule_in o.rule) (passes_in o.passes) o.sent o.report g is

run14_apart : (words : List (List ℕ)) (g : Run14Files) → run14_form words ≡ Some g → AreApart (run14_inputs g) (run14_outputs g)
run14_apart (program ∷ entries ∷ capture ∷ words) g is = run14_by_options program entries capture (options_in words no_options) g is
run14_apart [] g is = absurd (cc is)
run14_apart (program ∷ []) g is = absurd (cc is)
run14_apart (program ∷ entries ∷ []) g is = absurd (cc is)

by_run14 : (words : List (List ℕ)) (c : Command) (o : Option Run14Files) → run14_form words ≡ o → option_map (λ f. run14 f) o ≡ Some c → AreApart (inputs_of c) (outputs_of c)
by_run14 words c None here is = absurd (cc is)
by_run14 words c (Some g) here is = let same : run14 g ≡ c = cc is in subst (λ (x : Command). AreApart (inputs_of x) (outputs_of x)) same (run14_apart words g here)

-- of `run16`

run16_named : (f : Run16Files) → are_run16_names f ≡ true → AreApart (run16_inputs f) (run16_outputs f)
run16_named f is =
    apart_is (run16_inputs f) (run16_outputs f)
    (last (are_inputs f.text f.entries f.capture f.ports && is_value f.sent && is_value f.report) (are_apart (run16_inputs f) (run16_outputs f)) is)

run16_by_test : (f g : Run16Files) (b : Bool) → are_run16_names f ≡ b → (if b then Some f else None) ≡ Some g → AreApart (run16_inputs g) (run16_outputs g)
run16_by_test f g true names is = let same : f ≡ g = cc is in subst (λ (x : Run16Files). AreApart (run16_inputs x) (run16_outputs x)) same (run16_named f names)
run16_by_test f g false names is = absurd (cc is)

run16_by_found : (program entries capture : List ℕ) (ports text rule : Option (List ℕ)) (passes : Option ℕ) (sent report : Option (List ℕ)) (g : Run16Files)
    → run16_by program entries capture ports text rule passes sent report ≡ Some g → AreApart (run16_inputs g) (run16_outputs g)
run16_by_found program entries capture ports None None (Some passes) (Some sent) (Some report) g is =
    let f : Run16Files = record {
      text = program;
      entries = entries;
      capture = capture;
      ports = ports;
      sent = sent;
      report = report;
      passes = passes;
    } in
    run16_by_test f g (are_run16_names f) refl is
run16_by_found program entries capture ports None None (Some passes) (Some sent) None g is = absurd (cc is)
run16_by_found program entries capture ports None None (Some passes) None report g is = absurd (cc is)
run16_by_found program entries capture ports None None None sent report g is = absurd (cc is)
run16_by_found program entries capture ports None (Some rule) passes sent report g is = absurd (cc is)
run16_by_found program entries capture ports (Some text) rule passes sent report g is = absurd (cc is)

run16_by_options : (program entries capture : List ℕ) (o : Option Options) (g : Run16Files)
    → option_and_then (run16_found program entries capture) o ≡ Some g → AreApart (run16_inputs g) (run16_outputs g)
run16_by_options program entries capture None g is = absurd (cc is)
run16_by_options program entries capture (Some o) g is = run16_by_found program entries capture o.ports o.text o.rule (passes_in o.passes) o.sent o.report g is

run16_apart : (words : List (List ℕ)) (g : Run16Files) → run16_form words ≡ Some g → AreApart (run16_inputs g) (run16_outputs g)
run16_apart (program ∷ entries ∷ capture ∷ words) g is = run16_by_options program entries capture (options_in words no_options) g is
run16_apart [] g is = absurd (cc is)
run16_apart (program ∷ []) g is = absurd (cc is)
run16_apart (program ∷ entries ∷ []) g is = absurd (cc is)

by_run16 : (words : List (List ℕ)) (c : Command) (o : Option Run16Files) → run16_form words ≡ o → option_map (λ f. run16 f) o ≡ Some c → AreApart (inputs_of c) (outputs_of c)
by_run16 words c None here is = absurd (cc is)
by_run16 words c (Some g) here is = let same : run16 g ≡ c = cc is in subst (λ (x : Command). AreApart (inputs_of x) (outputs_of x)) same (run16_apart words g here)

-- commands that write no file

by_check : (c : Command) (o : Option (List ℕ)) → option_map (λ p. check p) o ≡ Some c → AreApart (inputs_of c) (outputs_of c)
by_check c None is = absurd (cc is)
by_check c (Some program) is = let same : check program ≡ c = cc is in subst (λ (x : Command). AreApart (inputs_of x) (outputs_of x)) same tt

by_order : (c : Command) (o : Option (List ℕ)) → option_map (λ p. order p) o ≡ Some c → AreApart (inputs_of c) (outputs_of c)
by_order c None is = absurd (cc is)
by_order c (Some program) is = let same : order program ≡ c = cc is in subst (λ (x : Command). AreApart (inputs_of x) (outputs_of x)) same tt

by_word : (words : List (List ℕ)) (c : Command) (is_carry is_check is_order is_run14 is_run16 : Bool)
    → (if is_carry then option_map (λ f. carry f) (carry_form words)
    else (if is_check then option_map (λ p. check p) (program_form words)
    else (if is_order then option_map (λ p. order p) (program_form words)
    else (if is_run14 then option_map (λ f. run14 f) (run14_form words)
    else (if is_run16 then option_map (λ f. run16 f) (run16_form words) else None))))) ≡ Some c
    → AreApart (inputs_of c) (outputs_of c)
by_word words c true is_check is_order is_run14 is_run16 is = by_carry words c (carry_form words) refl is
by_word words c false true is_order is_run14 is_run16 is = by_check c (program_form words) is
by_word words c false false true is_run14 is_run16 is = by_order c (program_form words) is
by_word words c false false false true is_run16 is = by_run14 words c (run14_form words) refl is
by_word words c false false false false true is = by_run16 words c (run16_form words) refl is
by_word words c false false false false false is = absurd (cc is)

pub form_apart : (words : List (List ℕ)) (c : Command) → form words ≡ Some c → AreApart (inputs_of c) (outputs_of c)
form_apart [] c is = absurd (cc is)
form_apart (command ∷ words) c is =
    by_word words c (bytes_eq command (codes "carry")) (bytes_eq command (codes "check")) (bytes_eq command (codes "order")) (bytes_eq command (codes "run14")) (bytes_eq command (codes "run16")) is
