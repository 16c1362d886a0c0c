use Rattle.lf_app.proofs.run_text.write_closing.Goals as goal

pub returns : goal.returns
returns g c = c.write_word.ensures
