-- What is left to show of `terms_are_what_their_texts_say`.
use Rattle.std.proofs.Common.{refl}
use Rattle.alf_reader.proofs.worked.terms_are_what_their_texts_say.Goals as goal

pub returns-clause-least : goal.returns-clause-least
unfolding Rattle.alf_reader.specs.Grammar.opening Rattle.alf_reader.specs.Grammar.closing Rattle.alf_reader.specs.Grammar.end Rattle.alf_reader.specs.Grammar.some_word Rattle.alf_reader.specs.Grammar.word Rattle.alf_reader.specs.Grammar.between Rattle.alf_reader.specs.Grammar.fixed Rattle.alf_reader.specs.Grammar.size Rattle.alf_reader.specs.Grammar.at_most Rattle.alf_reader.specs.Grammar.name Rattle.alf_reader.specs.Grammar.begin Rattle.alf_reader.specs.Grammar.unknown Rattle.alf_reader.specs.Grammar.one_function Rattle.alf_reader.specs.Grammar.one_frame Rattle.alf_reader.specs.Grammar.fits_frame Rattle.alf_reader.specs.Grammar.more_bytes Rattle.alf_reader.specs.Grammar.bits Rattle.alf_reader.specs.Grammar.reference Rattle.alf_reader.specs.Grammar.references Rattle.alf_reader.specs.Grammar.offset Rattle.alf_reader.specs.Grammar.zero_offset Rattle.alf_reader.specs.Grammar.label_tail Rattle.alf_reader.specs.Grammar.label Rattle.alf_reader.specs.Grammar.alloc Rattle.alf_reader.specs.Grammar.allocs Rattle.alf_reader.specs.Grammar.address_tail Rattle.alf_reader.specs.Grammar.address Rattle.alf_reader.specs.Grammar.unsigned Rattle.alf_reader.specs.Grammar.minus Rattle.alf_reader.specs.Grammar.signed_bits Rattle.alf_reader.specs.Grammar.signed Rattle.alf_reader.specs.Grammar.num_tail Rattle.alf_reader.specs.Grammar.num Rattle.alf_reader.specs.Grammar.ref_place Rattle.alf_reader.specs.Grammar.init Rattle.alf_reader.specs.Grammar.inits Rattle.alf_reader.specs.Grammar.operator_named Rattle.alf_reader.specs.Grammar.unsigned_term Rattle.alf_reader.specs.Grammar.signed_term Rattle.alf_reader.specs.Grammar.address_term Rattle.alf_reader.specs.Grammar.load Rattle.alf_reader.specs.Grammar.further Rattle.alf_reader.specs.Grammar.sizes Rattle.alf_reader.specs.Grammar.apply Rattle.alf_reader.specs.Grammar.operator Rattle.alf_reader.specs.Grammar.expr_tail Rattle.alf_reader.specs.Grammar.nested Rattle.alf_reader.specs.Grammar.expr Rattle.alf_reader.specs.Grammar.whole_expr Rattle.alf_tokens.specs.Tokens.piece Rattle.alf_tokens.specs.Tokens.tokens_from Rattle.alf_tokens.specs.Tokens.tokens_of Rattle.alf_tokens.specs.Bytes.to_close
returns-clause-least c = refl

pub returns-clause-past : goal.returns-clause-past
unfolding Rattle.alf_reader.specs.Grammar.opening Rattle.alf_reader.specs.Grammar.closing Rattle.alf_reader.specs.Grammar.end Rattle.alf_reader.specs.Grammar.some_word Rattle.alf_reader.specs.Grammar.word Rattle.alf_reader.specs.Grammar.between Rattle.alf_reader.specs.Grammar.fixed Rattle.alf_reader.specs.Grammar.size Rattle.alf_reader.specs.Grammar.at_most Rattle.alf_reader.specs.Grammar.name Rattle.alf_reader.specs.Grammar.begin Rattle.alf_reader.specs.Grammar.unknown Rattle.alf_reader.specs.Grammar.one_function Rattle.alf_reader.specs.Grammar.one_frame Rattle.alf_reader.specs.Grammar.fits_frame Rattle.alf_reader.specs.Grammar.more_bytes Rattle.alf_reader.specs.Grammar.bits Rattle.alf_reader.specs.Grammar.reference Rattle.alf_reader.specs.Grammar.references Rattle.alf_reader.specs.Grammar.offset Rattle.alf_reader.specs.Grammar.zero_offset Rattle.alf_reader.specs.Grammar.label_tail Rattle.alf_reader.specs.Grammar.label Rattle.alf_reader.specs.Grammar.alloc Rattle.alf_reader.specs.Grammar.allocs Rattle.alf_reader.specs.Grammar.address_tail Rattle.alf_reader.specs.Grammar.address Rattle.alf_reader.specs.Grammar.unsigned Rattle.alf_reader.specs.Grammar.minus Rattle.alf_reader.specs.Grammar.signed_bits Rattle.alf_reader.specs.Grammar.signed Rattle.alf_reader.specs.Grammar.num_tail Rattle.alf_reader.specs.Grammar.num Rattle.alf_reader.specs.Grammar.ref_place Rattle.alf_reader.specs.Grammar.init Rattle.alf_reader.specs.Grammar.inits Rattle.alf_reader.specs.Grammar.operator_named Rattle.alf_reader.specs.Grammar.unsigned_term Rattle.alf_reader.specs.Grammar.signed_term Rattle.alf_reader.specs.Grammar.address_term Rattle.alf_reader.specs.Grammar.load Rattle.alf_reader.specs.Grammar.further Rattle.alf_reader.specs.Grammar.sizes Rattle.alf_reader.specs.Grammar.apply Rattle.alf_reader.specs.Grammar.operator Rattle.alf_reader.specs.Grammar.expr_tail Rattle.alf_reader.specs.Grammar.nested Rattle.alf_reader.specs.Grammar.expr Rattle.alf_reader.specs.Grammar.whole_expr Rattle.alf_tokens.specs.Tokens.piece Rattle.alf_tokens.specs.Tokens.tokens_from Rattle.alf_tokens.specs.Tokens.tokens_of Rattle.alf_tokens.specs.Bytes.to_close
returns-clause-past c = refl

pub returns-clause-greatest : goal.returns-clause-greatest
unfolding Rattle.alf_reader.specs.Grammar.opening Rattle.alf_reader.specs.Grammar.closing Rattle.alf_reader.specs.Grammar.end Rattle.alf_reader.specs.Grammar.some_word Rattle.alf_reader.specs.Grammar.word Rattle.alf_reader.specs.Grammar.between Rattle.alf_reader.specs.Grammar.fixed Rattle.alf_reader.specs.Grammar.size Rattle.alf_reader.specs.Grammar.at_most Rattle.alf_reader.specs.Grammar.name Rattle.alf_reader.specs.Grammar.begin Rattle.alf_reader.specs.Grammar.unknown Rattle.alf_reader.specs.Grammar.one_function Rattle.alf_reader.specs.Grammar.one_frame Rattle.alf_reader.specs.Grammar.fits_frame Rattle.alf_reader.specs.Grammar.more_bytes Rattle.alf_reader.specs.Grammar.bits Rattle.alf_reader.specs.Grammar.reference Rattle.alf_reader.specs.Grammar.references Rattle.alf_reader.specs.Grammar.offset Rattle.alf_reader.specs.Grammar.zero_offset Rattle.alf_reader.specs.Grammar.label_tail Rattle.alf_reader.specs.Grammar.label Rattle.alf_reader.specs.Grammar.alloc Rattle.alf_reader.specs.Grammar.allocs Rattle.alf_reader.specs.Grammar.address_tail Rattle.alf_reader.specs.Grammar.address Rattle.alf_reader.specs.Grammar.unsigned Rattle.alf_reader.specs.Grammar.minus Rattle.alf_reader.specs.Grammar.signed_bits Rattle.alf_reader.specs.Grammar.signed Rattle.alf_reader.specs.Grammar.num_tail Rattle.alf_reader.specs.Grammar.num Rattle.alf_reader.specs.Grammar.ref_place Rattle.alf_reader.specs.Grammar.init Rattle.alf_reader.specs.Grammar.inits Rattle.alf_reader.specs.Grammar.operator_named Rattle.alf_reader.specs.Grammar.unsigned_term Rattle.alf_reader.specs.Grammar.signed_term Rattle.alf_reader.specs.Grammar.address_term Rattle.alf_reader.specs.Grammar.load Rattle.alf_reader.specs.Grammar.further Rattle.alf_reader.specs.Grammar.sizes Rattle.alf_reader.specs.Grammar.apply Rattle.alf_reader.specs.Grammar.operator Rattle.alf_reader.specs.Grammar.expr_tail Rattle.alf_reader.specs.Grammar.nested Rattle.alf_reader.specs.Grammar.expr Rattle.alf_reader.specs.Grammar.whole_expr Rattle.alf_tokens.specs.Tokens.piece Rattle.alf_tokens.specs.Tokens.tokens_from Rattle.alf_tokens.specs.Tokens.tokens_of Rattle.alf_tokens.specs.Bytes.to_close
returns-clause-greatest c = refl

pub returns-clause-more : goal.returns-clause-more
unfolding Rattle.alf_reader.specs.Grammar.opening Rattle.alf_reader.specs.Grammar.closing Rattle.alf_reader.specs.Grammar.end Rattle.alf_reader.specs.Grammar.some_word Rattle.alf_reader.specs.Grammar.word Rattle.alf_reader.specs.Grammar.between Rattle.alf_reader.specs.Grammar.fixed Rattle.alf_reader.specs.Grammar.size Rattle.alf_reader.specs.Grammar.at_most Rattle.alf_reader.specs.Grammar.name Rattle.alf_reader.specs.Grammar.begin Rattle.alf_reader.specs.Grammar.unknown Rattle.alf_reader.specs.Grammar.one_function Rattle.alf_reader.specs.Grammar.one_frame Rattle.alf_reader.specs.Grammar.fits_frame Rattle.alf_reader.specs.Grammar.more_bytes Rattle.alf_reader.specs.Grammar.bits Rattle.alf_reader.specs.Grammar.reference Rattle.alf_reader.specs.Grammar.references Rattle.alf_reader.specs.Grammar.offset Rattle.alf_reader.specs.Grammar.zero_offset Rattle.alf_reader.specs.Grammar.label_tail Rattle.alf_reader.specs.Grammar.label Rattle.alf_reader.specs.Grammar.alloc Rattle.alf_reader.specs.Grammar.allocs Rattle.alf_reader.specs.Grammar.address_tail Rattle.alf_reader.specs.Grammar.address Rattle.alf_reader.specs.Grammar.unsigned Rattle.alf_reader.specs.Grammar.minus Rattle.alf_reader.specs.Grammar.signed_bits Rattle.alf_reader.specs.Grammar.signed Rattle.alf_reader.specs.Grammar.num_tail Rattle.alf_reader.specs.Grammar.num Rattle.alf_reader.specs.Grammar.ref_place Rattle.alf_reader.specs.Grammar.init Rattle.alf_reader.specs.Grammar.inits Rattle.alf_reader.specs.Grammar.operator_named Rattle.alf_reader.specs.Grammar.unsigned_term Rattle.alf_reader.specs.Grammar.signed_term Rattle.alf_reader.specs.Grammar.address_term Rattle.alf_reader.specs.Grammar.load Rattle.alf_reader.specs.Grammar.further Rattle.alf_reader.specs.Grammar.sizes Rattle.alf_reader.specs.Grammar.apply Rattle.alf_reader.specs.Grammar.operator Rattle.alf_reader.specs.Grammar.expr_tail Rattle.alf_reader.specs.Grammar.nested Rattle.alf_reader.specs.Grammar.expr Rattle.alf_reader.specs.Grammar.whole_expr Rattle.alf_tokens.specs.Tokens.piece Rattle.alf_tokens.specs.Tokens.tokens_from Rattle.alf_tokens.specs.Tokens.tokens_of Rattle.alf_tokens.specs.Bytes.to_close
returns-clause-more c = refl

pub returns-clause-load : goal.returns-clause-load
unfolding Rattle.alf_reader.specs.Grammar.opening Rattle.alf_reader.specs.Grammar.closing Rattle.alf_reader.specs.Grammar.end Rattle.alf_reader.specs.Grammar.some_word Rattle.alf_reader.specs.Grammar.word Rattle.alf_reader.specs.Grammar.between Rattle.alf_reader.specs.Grammar.fixed Rattle.alf_reader.specs.Grammar.size Rattle.alf_reader.specs.Grammar.at_most Rattle.alf_reader.specs.Grammar.name Rattle.alf_reader.specs.Grammar.begin Rattle.alf_reader.specs.Grammar.unknown Rattle.alf_reader.specs.Grammar.one_function Rattle.alf_reader.specs.Grammar.one_frame Rattle.alf_reader.specs.Grammar.fits_frame Rattle.alf_reader.specs.Grammar.more_bytes Rattle.alf_reader.specs.Grammar.bits Rattle.alf_reader.specs.Grammar.reference Rattle.alf_reader.specs.Grammar.references Rattle.alf_reader.specs.Grammar.offset Rattle.alf_reader.specs.Grammar.zero_offset Rattle.alf_reader.specs.Grammar.label_tail Rattle.alf_reader.specs.Grammar.label Rattle.alf_reader.specs.Grammar.alloc Rattle.alf_reader.specs.Grammar.allocs Rattle.alf_reader.specs.Grammar.address_tail Rattle.alf_reader.specs.Grammar.address Rattle.alf_reader.specs.Grammar.unsigned Rattle.alf_reader.specs.Grammar.minus Rattle.alf_reader.specs.Grammar.signed_bits Rattle.alf_reader.specs.Grammar.signed Rattle.alf_reader.specs.Grammar.num_tail Rattle.alf_reader.specs.Grammar.num Rattle.alf_reader.specs.Grammar.ref_place Rattle.alf_reader.specs.Grammar.init Rattle.alf_reader.specs.Grammar.inits Rattle.alf_reader.specs.Grammar.operator_named Rattle.alf_reader.specs.Grammar.unsigned_term Rattle.alf_reader.specs.Grammar.signed_term Rattle.alf_reader.specs.Grammar.address_term Rattle.alf_reader.specs.Grammar.load Rattle.alf_reader.specs.Grammar.further Rattle.alf_reader.specs.Grammar.sizes Rattle.alf_reader.specs.Grammar.apply Rattle.alf_reader.specs.Grammar.operator Rattle.alf_reader.specs.Grammar.expr_tail Rattle.alf_reader.specs.Grammar.nested Rattle.alf_reader.specs.Grammar.expr Rattle.alf_reader.specs.Grammar.whole_expr Rattle.alf_tokens.specs.Tokens.piece Rattle.alf_tokens.specs.Tokens.tokens_from Rattle.alf_tokens.specs.Tokens.tokens_of Rattle.alf_tokens.specs.Bytes.to_close
returns-clause-load c = refl

pub returns-clause-wide : goal.returns-clause-wide
unfolding Rattle.alf_reader.specs.Grammar.opening Rattle.alf_reader.specs.Grammar.closing Rattle.alf_reader.specs.Grammar.end Rattle.alf_reader.specs.Grammar.some_word Rattle.alf_reader.specs.Grammar.word Rattle.alf_reader.specs.Grammar.between Rattle.alf_reader.specs.Grammar.fixed Rattle.alf_reader.specs.Grammar.size Rattle.alf_reader.specs.Grammar.at_most Rattle.alf_reader.specs.Grammar.name Rattle.alf_reader.specs.Grammar.begin Rattle.alf_reader.specs.Grammar.unknown Rattle.alf_reader.specs.Grammar.one_function Rattle.alf_reader.specs.Grammar.one_frame Rattle.alf_reader.specs.Grammar.fits_frame Rattle.alf_reader.specs.Grammar.more_bytes Rattle.alf_reader.specs.Grammar.bits Rattle.alf_reader.specs.Grammar.reference Rattle.alf_reader.specs.Grammar.references Rattle.alf_reader.specs.Grammar.offset Rattle.alf_reader.specs.Grammar.zero_offset Rattle.alf_reader.specs.Grammar.label_tail Rattle.alf_reader.specs.Grammar.label Rattle.alf_reader.specs.Grammar.alloc Rattle.alf_reader.specs.Grammar.allocs Rattle.alf_reader.specs.Grammar.address_tail Rattle.alf_reader.specs.Grammar.address Rattle.alf_reader.specs.Grammar.unsigned Rattle.alf_reader.specs.Grammar.minus Rattle.alf_reader.specs.Grammar.signed_bits Rattle.alf_reader.specs.Grammar.signed Rattle.alf_reader.specs.Grammar.num_tail Rattle.alf_reader.specs.Grammar.num Rattle.alf_reader.specs.Grammar.ref_place Rattle.alf_reader.specs.Grammar.init Rattle.alf_reader.specs.Grammar.inits Rattle.alf_reader.specs.Grammar.operator_named Rattle.alf_reader.specs.Grammar.unsigned_term Rattle.alf_reader.specs.Grammar.signed_term Rattle.alf_reader.specs.Grammar.address_term Rattle.alf_reader.specs.Grammar.load Rattle.alf_reader.specs.Grammar.further Rattle.alf_reader.specs.Grammar.sizes Rattle.alf_reader.specs.Grammar.apply Rattle.alf_reader.specs.Grammar.operator Rattle.alf_reader.specs.Grammar.expr_tail Rattle.alf_reader.specs.Grammar.nested Rattle.alf_reader.specs.Grammar.expr Rattle.alf_reader.specs.Grammar.whole_expr Rattle.alf_tokens.specs.Tokens.piece Rattle.alf_tokens.specs.Tokens.tokens_from Rattle.alf_tokens.specs.Tokens.tokens_of Rattle.alf_tokens.specs.Bytes.to_close
returns-clause-wide c = refl

pub returns-clause-unknown : goal.returns-clause-unknown
unfolding Rattle.alf_reader.specs.Grammar.opening Rattle.alf_reader.specs.Grammar.closing Rattle.alf_reader.specs.Grammar.end Rattle.alf_reader.specs.Grammar.some_word Rattle.alf_reader.specs.Grammar.word Rattle.alf_reader.specs.Grammar.between Rattle.alf_reader.specs.Grammar.fixed Rattle.alf_reader.specs.Grammar.size Rattle.alf_reader.specs.Grammar.at_most Rattle.alf_reader.specs.Grammar.name Rattle.alf_reader.specs.Grammar.begin Rattle.alf_reader.specs.Grammar.unknown Rattle.alf_reader.specs.Grammar.one_function Rattle.alf_reader.specs.Grammar.one_frame Rattle.alf_reader.specs.Grammar.fits_frame Rattle.alf_reader.specs.Grammar.more_bytes Rattle.alf_reader.specs.Grammar.bits Rattle.alf_reader.specs.Grammar.reference Rattle.alf_reader.specs.Grammar.references Rattle.alf_reader.specs.Grammar.offset Rattle.alf_reader.specs.Grammar.zero_offset Rattle.alf_reader.specs.Grammar.label_tail Rattle.alf_reader.specs.Grammar.label Rattle.alf_reader.specs.Grammar.alloc Rattle.alf_reader.specs.Grammar.allocs Rattle.alf_reader.specs.Grammar.address_tail Rattle.alf_reader.specs.Grammar.address Rattle.alf_reader.specs.Grammar.unsigned Rattle.alf_reader.specs.Grammar.minus Rattle.alf_reader.specs.Grammar.signed_bits Rattle.alf_reader.specs.Grammar.signed Rattle.alf_reader.specs.Grammar.num_tail Rattle.alf_reader.specs.Grammar.num Rattle.alf_reader.specs.Grammar.ref_place Rattle.alf_reader.specs.Grammar.init Rattle.alf_reader.specs.Grammar.inits Rattle.alf_reader.specs.Grammar.operator_named Rattle.alf_reader.specs.Grammar.unsigned_term Rattle.alf_reader.specs.Grammar.signed_term Rattle.alf_reader.specs.Grammar.address_term Rattle.alf_reader.specs.Grammar.load Rattle.alf_reader.specs.Grammar.further Rattle.alf_reader.specs.Grammar.sizes Rattle.alf_reader.specs.Grammar.apply Rattle.alf_reader.specs.Grammar.operator Rattle.alf_reader.specs.Grammar.expr_tail Rattle.alf_reader.specs.Grammar.nested Rattle.alf_reader.specs.Grammar.expr Rattle.alf_reader.specs.Grammar.whole_expr Rattle.alf_tokens.specs.Tokens.piece Rattle.alf_tokens.specs.Tokens.tokens_from Rattle.alf_tokens.specs.Tokens.tokens_of Rattle.alf_tokens.specs.Bytes.to_close
returns-clause-unknown c = refl
