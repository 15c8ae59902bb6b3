-- What is left to show of `pieces_end_where_they_must`.
use Rattle.std.proofs.Common.{refl}
use Rattle.alf_tokens.proofs.worked.pieces_end_where_they_must.Goals as goal

pub returns-clause-empty : goal.returns-clause-empty
unfolding Rattle.alf_tokens.specs.Tokens.piece Rattle.alf_tokens.specs.Bytes.to_close
returns-clause-empty c = refl

pub returns-clause-tilde : goal.returns-clause-tilde
unfolding Rattle.alf_tokens.specs.Tokens.piece Rattle.alf_tokens.specs.Bytes.to_close
returns-clause-tilde c = refl

pub returns-clause-past_tilde : goal.returns-clause-past_tilde
unfolding Rattle.alf_tokens.specs.Tokens.piece Rattle.alf_tokens.specs.Bytes.to_close
returns-clause-past_tilde c = refl

pub returns-clause-below_space : goal.returns-clause-below_space
unfolding Rattle.alf_tokens.specs.Tokens.piece Rattle.alf_tokens.specs.Bytes.to_close
returns-clause-below_space c = refl

pub returns-clause-backslash : goal.returns-clause-backslash
unfolding Rattle.alf_tokens.specs.Tokens.piece Rattle.alf_tokens.specs.Bytes.to_close
returns-clause-backslash c = refl

pub returns-clause-open : goal.returns-clause-open
unfolding Rattle.alf_tokens.specs.Tokens.piece Rattle.alf_tokens.specs.Bytes.to_close
returns-clause-open c = refl

pub returns-clause-closed : goal.returns-clause-closed
unfolding Rattle.alf_tokens.specs.Tokens.piece Rattle.alf_tokens.specs.Bytes.to_close
returns-clause-closed c = refl

pub returns-clause-slash : goal.returns-clause-slash
unfolding Rattle.alf_tokens.specs.Tokens.piece Rattle.alf_tokens.specs.Bytes.to_close
returns-clause-slash c = refl

pub returns-clause-twenty : goal.returns-clause-twenty
unfolding Rattle.alf_tokens.specs.Tokens.piece Rattle.alf_tokens.specs.Bytes.to_close
returns-clause-twenty c = refl

pub returns-clause-more : goal.returns-clause-more
unfolding Rattle.alf_tokens.specs.Tokens.piece Rattle.alf_tokens.specs.Bytes.to_close
returns-clause-more c = refl
