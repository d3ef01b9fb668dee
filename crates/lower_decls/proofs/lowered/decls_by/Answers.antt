use Rattle.lower_decls.proofs.lowered.decls_by.Goals as goal

pub returns : goal.returns
returns c x expanded = c.in_ok-found.ensures x (c.in_ok-fields.ensures x expanded)
